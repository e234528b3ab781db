-- What is read as a body is spelled so, and what is spelled so is read.
use Rattle.std.proofs.Common.{◌≡◌, ℕ, List, ◌++◌, Option, Some, None, refl, ap, ◌∙◌}
use Rattle.std.specs.Prelude.{IfSome}
use Rattle.lk_types.specs.Ranges.{IsCount}
use Rattle.lk_codec.specs.Fields.{eight}
use Rattle.lk_codec.specs.Parser.{tagged, whole}
use Rattle.lk_codec.specs.FieldReading.{read_count}
use Rattle.lk_codec.proofs.Spellings.{IsBytes, Reads, both_reads, whole_takes, whole_again, TakesKinds, no_kind_takes}
use Rattle.lk_codec.proofs.Spellings.{kind_takes, tagged_reads, count_reads}
use Rattle.lk_locks.specs.Names.{IsName}
use Rattle.lk_locks.specs.NameLaws.{name_reads}
use Rattle.lk_locks.specs.Bodies.{lock_name, name_and_fence, body_tag, body_fields, spelling, IsBody, SpellsBody}
use Rattle.lk_locks.specs.Bodies.{read_name, read_name_and_fence, fields_of, body_of}
use Rattle.lk_locks.specs.declared.body.Body.{Body}
use Rattle.lk_locks.specs.declared.body.Body.TheVariants.{Acquire, Release, Ask, Check, Share, Break}

pub name_and_fence_reads : Reads read_name_and_fence name_and_fence (λ (p : List ℕ × ℕ). IsName p.0 × IsCount p.1)
unfolding read_name_and_fence
name_and_fence_reads = both_reads read_name lock_name IsName read_count eight IsCount name_reads count_reads

fields_take : TakesKinds body_tag body_fields IsBody fields_of
unfolding fields_of
fields_take =
    kind_takes body_tag body_fields IsBody 1 Acquire read_name lock_name IsName name_reads
    (λ x. refl) (λ x. refl) (λ x f. f) _
    (kind_takes body_tag body_fields IsBody 2 (λ (p : List ℕ × ℕ). Release p.0 p.1) read_name_and_fence name_and_fence
    (λ (p : List ℕ × ℕ). IsName p.0 × IsCount p.1) name_and_fence_reads (λ x. refl) (λ x. refl) (λ x f. f) _
    (kind_takes body_tag body_fields IsBody 3 Ask read_name lock_name IsName name_reads
    (λ x. refl) (λ x. refl) (λ x f. f) _
    (kind_takes body_tag body_fields IsBody 4 (λ (p : List ℕ × ℕ). Check p.0 p.1) read_name_and_fence name_and_fence
    (λ (p : List ℕ × ℕ). IsName p.0 × IsCount p.1) name_and_fence_reads (λ x. refl) (λ x. refl) (λ x f. f) _
    (kind_takes body_tag body_fields IsBody 5 Share read_name lock_name IsName name_reads
    (λ x. refl) (λ x. refl) (λ x f. f) _
    (kind_takes body_tag body_fields IsBody 6 (λ (p : List ℕ × ℕ). Break p.0 p.1) read_name_and_fence name_and_fence
    (λ (p : List ℕ × ℕ). IsName p.0 × IsCount p.1) name_and_fence_reads (λ x. refl) (λ x. refl) (λ x f. f) _
    (no_kind_takes body_tag body_fields IsBody))))))

fields_again : (body : Body) (rest : List ℕ) → IsBody body
    → fields_of (body_tag body) (body_fields body ++ rest) ≡ Some (body, rest)
unfolding fields_of
fields_again (Acquire name) rest fits = rw (name_reads.again name rest fits) refl
fields_again (Release name fence) rest fits = rw (name_and_fence_reads.again (name, fence) rest fits) refl
fields_again (Ask name) rest fits = rw (name_reads.again name rest fits) refl
fields_again (Check name fence) rest fits = rw (name_and_fence_reads.again (name, fence) rest fits) refl
fields_again (Share name) rest fits = rw (name_reads.again name rest fits) refl
fields_again (Break name fence) rest fits = rw (name_and_fence_reads.again (name, fence) rest fits) refl

body_reads : Reads (tagged fields_of) spelling IsBody
body_reads = tagged_reads body_tag body_fields IsBody fields_of fields_take fields_again

pub found : (bytes : List ℕ) → IsBytes bytes → IfSome (body_of bytes) (λ b. SpellsBody b bytes)
unfolding body_of
found bytes h = by (whole (tagged fields_of) bytes) refl
  where
    by : (o : Option Body) → whole (tagged fields_of) bytes ≡ o → IfSome o (λ b. SpellsBody b bytes)
    by None e = tt
    by (Some body) e = whole_takes (tagged fields_of) spelling IsBody body_reads bytes body h e

pub only : (body : Body) (bytes : List ℕ) → SpellsBody body bytes → body_of bytes ≡ Some body
unfolding body_of
only body bytes s =
    ap (whole (tagged fields_of)) s.1 ∙ whole_again (tagged fields_of) spelling IsBody body_reads body s.0

pub one : (a b : Body) (bytes : List ℕ) → SpellsBody a bytes → SpellsBody b bytes → a ≡ b
one a b bytes s t = let p = only a bytes s in let q = only b bytes t in cc
