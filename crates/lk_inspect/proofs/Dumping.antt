-- What is found in a store, and what is printed of it.
use Rattle.std.proofs.Common.{◌≡◌, ◌∙◌, ℕ, ◌++◌, Bool, List, length, Option, Some, None, refl, sym, subst}
use Rattle.std.specs.Prelude.{IfSome, is_some, codes}
use Rattle.std.specs.Io.KnownBytes.{Appends, Keeps}
use Rattle.lk_types.specs.BallotValue.{BallotValue}
use Rattle.lk_store_format.specs.Values.{StandingValue}
use Rattle.lk_log.specs.Images.{Image, IsEmpty}
use Rattle.lk_log.specs.Stores.{Shows}
use Rattle.lk_log.specs.declared.reopening.LiveFile.{LiveFile}
use Rattle.lk_types.proofs.Appending.{appends_more}
use Rattle.lk_inspect.specs.Dumps.{number_line, promised_line, live_text, found_text, Dumps}

pub appends_kept : (a b c : Option (List ℕ)) (x : List ℕ) → Appends a b x → Keeps b c → Appends a c x
appends_kept None b c x f g = tt
appends_kept (Some xs) None c x f g = absurd f
appends_kept (Some xs) (Some ys) None x f g = absurd g
appends_kept (Some xs) (Some ys) (Some zs) x f g = g ∙ f

pub dumped : (sums : Bool) (image : Image) (found : Option LiveFile) (is_store : Bool) (a b c : Option (List ℕ))
    → IfSome found (λ x. Shows image x.generation x.format x.standing) → (found ≡ None → IsEmpty image)
    → is_store ≡ is_some found → Appends a b (found_text sums found) → Keeps b c
    → (text : List ℕ) × Dumps sums image is_store text × Appends a c text
dumped sums image None is_store a b c shows empty is wrote kept = (
  found_text sums None,
  subst (λ (s : Bool). Dumps sums image s (found_text sums None)) (sym is) (empty refl, refl),
  appends_kept a b c (found_text sums None) wrote kept,
)
dumped sums image (Some live) is_store a b c shows empty is wrote kept = (
  found_text sums (Some live),
  subst (λ (s : Bool). Dumps sums image s (found_text sums (Some live))) (sym is)
      (live.generation, live.format, live.standing, shows, refl),
  appends_kept a b c (found_text sums (Some live)) wrote kept,
)

-- one line after another
pub six_lines : (a b c d e f g : Option (List ℕ)) (r s t u v w : List ℕ) → Appends a b r → Appends b c s
    → Appends c d t → Appends d e u → Appends e f v → Appends f g w
    → Appends a g (r ++ (s ++ (t ++ (u ++ (v ++ w)))))
six_lines a b c d e f g r s t u v w h i j k l m =
    appends_more a b g r (s ++ (t ++ (u ++ (v ++ w)))) h
    (appends_more b c g s (t ++ (u ++ (v ++ w))) i
    (appends_more c d g t (u ++ (v ++ w)) j (appends_more d e g u (v ++ w) k (appends_more e f g v w l m))))

pub prints_live : (generation format : ℕ) (s : StandingValue) (a z : Option (List ℕ)) (g f : ℕ)
    (b : BallotValue) (p v d : ℕ)
    → Appends a z (number_line (codes "generation") g
    ++ (promised_line b ++ (number_line (codes "snapshot") p
    ++ (number_line (codes "votes") v ++ (number_line (codes "decided") d ++ number_line (codes "format") f)))))
    → g ≡ generation → b ≡ s.promised → p ≡ s.position → v ≡ length s.votes → d ≡ length s.pairs → f ≡ format
    → Appends a z (live_text generation format s)
prints_live generation format s a z g f b p v d printed gs bs ps vs ds fs =
    rw (sym gs, sym bs, sym ps, sym vs, sym ds, sym fs) printed
