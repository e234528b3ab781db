-- A watch and a notice read what their spellings are, and neither is another datagram.
use Rattle.std.proofs.Common.{◌≡◌, ℕ, List, length, get_or, Option, Some, None, refl, sym, ap, ◌∙◌}
use Rattle.std.proofs.Common.{arith}
use Rattle.std.specs.Prelude.{IfSome, IsSomeAnd}
use Rattle.std.proofs.lemmas.Nat.{from_be_bytes-to_be_bytes_2}
use Rattle.lk_auth.specs.Clients.{client_in}
use Rattle.lk_auth.specs.Frames.{sealed}
use Rattle.lk_auth.specs.Seals.{only_request}
use Rattle.lk_auth.specs.declared.frame.Scope.{Scope}
use Rattle.lk_codec.specs.Fields.{two, four, eight}
use Rattle.lk_codec.specs.Parser.{Finds}
use Rattle.lk_codec.proofs.Spellings.{IsBytes, some_is, Reads, whole_again, whole_takes}
use Rattle.lk_messages.specs.declared.message.Message.{Message}
use Rattle.lk_messages.specs.Grammar.{Spells}
use Rattle.lk_probe.specs.Grammar.{SpellsProbe, SpellsReport, padded}
use Rattle.lk_probe.specs.declared.probe.Probe.{Probe}
use Rattle.lk_probe.specs.declared.probe.Report.{Report}
use Rattle.lk_bundle.specs.Bundles.{Bundles}
use Rattle.lk_watch.specs.Grammar.{front, watch, notice, IsWatch, IsNotice, SpellsWatch, SpellsNotice}
use Rattle.lk_watch.specs.Reading.{fronted, read_watch_fields, read_notice_fields, watch_of, notice_of}
use Rattle.lk_watch.specs.declared.watch.Watch.{Watch}
use Rattle.lk_watch.specs.declared.notice.Notice.{Notice}
use Rattle.lk_watch.proofs.PartLaws.{watch_fields_reads, notice_fields_reads, fronted_reads, length-watch}
use Rattle.lk_watch.proofs.PartLaws.{length-notice}

watch_reads : Reads (fronted 9 read_watch_fields) (λ (w : Watch). front 9 (watch w)) IsWatch
watch_reads = fronted_reads 9 read_watch_fields watch IsWatch watch_fields_reads

notice_reads : Reads (fronted 10 read_notice_fields) (λ (n : Notice). front 10 (notice n)) IsNotice
notice_reads = fronted_reads 10 read_notice_fields notice IsNotice notice_fields_reads

-- ---- what is read

pub watch_found : (bytes : List ℕ) (w : Watch) → IsBytes bytes → watch_of bytes ≡ Some w → SpellsWatch w bytes
unfolding watch_of
watch_found bytes w h e =
    let t = whole_takes (fronted 9 read_watch_fields) (λ (w : Watch). front 9 (watch w)) IsWatch watch_reads bytes w
    h e in
    (t.0, t.1)

pub watch_again : (w : Watch) (bytes : List ℕ) → SpellsWatch w bytes → watch_of bytes ≡ Some w
unfolding watch_of
watch_again w bytes s = ap watch_of s.1
    ∙ whole_again (fronted 9 read_watch_fields) (λ (w : Watch). front 9 (watch w)) IsWatch watch_reads w s.0

pub notice_found : (bytes : List ℕ) (n : Notice) → IsBytes bytes → notice_of bytes ≡ Some n → SpellsNotice n bytes
unfolding notice_of
notice_found bytes n h e =
    let t = whole_takes (fronted 10 read_notice_fields) (λ (n : Notice). front 10 (notice n)) IsNotice notice_reads
    bytes n h e in
    (t.0, t.1)

pub notice_again : (n : Notice) (bytes : List ℕ) → SpellsNotice n bytes → notice_of bytes ≡ Some n
unfolding notice_of
notice_again n bytes s = ap notice_of s.1
    ∙ whole_again (fronted 10 read_notice_fields) (λ (n : Notice). front 10 (notice n)) IsNotice notice_reads n s.0

-- ---- the laws

pub one_watch : (v w : Watch) (bytes : List ℕ) → SpellsWatch v bytes → SpellsWatch w bytes → v ≡ w
one_watch v w bytes s t = some_is v w (sym (watch_again v bytes s) ∙ watch_again w bytes t)

pub one_notice : (m n : Notice) (bytes : List ℕ) → SpellsNotice m bytes → SpellsNotice n bytes → m ≡ n
one_notice m n bytes s t = some_is m n (sym (notice_again m bytes s) ∙ notice_again n bytes t)

pub watch_length_is : (w : Watch) (bytes : List ℕ) → SpellsWatch w bytes → length bytes ≡ 71
watch_length_is w bytes s = ap length s.1 ∙ length-watch w s.0

pub notice_length_is : (n : Notice) (bytes : List ℕ) → SpellsNotice n bytes → length bytes ≡ 71
notice_length_is n bytes s = ap length s.1 ∙ length-notice n s.0

-- the second letter, and which of both it is

pub watch_letters : (w : Watch) (bytes : List ℕ) → SpellsWatch w bytes
    → (get_or bytes 1 0 ≡ 87) × (get_or bytes 3 0 ≡ 9)
watch_letters w bytes s = (ap (λ (b : List ℕ). get_or b 1 0) s.1, ap (λ (b : List ℕ). get_or b 3 0) s.1)

pub notice_letters : (n : Notice) (bytes : List ℕ) → SpellsNotice n bytes
    → (get_or bytes 1 0 ≡ 87) × (get_or bytes 3 0 ≡ 10)
notice_letters n bytes s = (ap (λ (b : List ℕ). get_or b 1 0) s.1, ap (λ (b : List ℕ). get_or b 3 0) s.1)

pub message_letter : (m : Message) (bytes : List ℕ) → Spells m bytes → get_or bytes 1 0 ≡ 75
message_letter m bytes s = ap (λ (w : List ℕ). get_or w 1 0) s.1

pub probe_letter : (p : Probe) (bytes : List ℕ) → SpellsProbe p bytes → get_or bytes 1 0 ≡ 80
unfolding padded
probe_letter p bytes s = ap (λ (w : List ℕ). get_or w 1 0) s.1

pub report_letter : (r : Report) (bytes : List ℕ) → SpellsReport r bytes → get_or bytes 1 0 ≡ 80
unfolding padded
report_letter r bytes s = ap (λ (w : List ℕ). get_or w 1 0) s.1

pub bundle_letter : (ds : List (List ℕ)) (bytes : List ℕ) → Bundles ds bytes → get_or bytes 1 0 ≡ 66
bundle_letter ds bytes b = ap (λ (w : List ℕ). get_or w 1 0) b.is

pub frame_letter : (key : List ℕ) (s : Scope) (d bytes : List ℕ) → bytes ≡ sealed key s d → get_or bytes 1 0 ≡ 83
unfolding sealed
frame_letter key s d bytes e = ap (λ (w : List ℕ). get_or w 1 0) e

-- ---- in a frame

pub is_of_a_client : (w : Watch) (bytes : List ℕ) → SpellsWatch w bytes → only_request bytes ≡ bytes
is_of_a_client w bytes s = rw s.1 refl

pub names_its_client : (w : Watch) (bytes : List ℕ) → SpellsWatch w bytes → client_in bytes ≡ w.ticket.client
unfolding two four eight
names_its_client w bytes s =
    rw s.1 (from_be_bytes-to_be_bytes_2 w.ticket.client (omega (arith, s.0.1.0.1)))

-- ---- what reading promises

pub watch_is : (bytes : List ℕ) (result : Option Watch) → IsBytes bytes
    → Finds (λ (x : Watch). x) result (watch_of bytes) → IfSome result (λ w. SpellsWatch w bytes)
watch_is bytes (Some w) h e = watch_found bytes w h e
watch_is bytes None h e = tt

pub watch_only : (bytes : List ℕ) (result : Option Watch) → Finds (λ (x : Watch). x) result (watch_of bytes)
    → (w : Watch) → SpellsWatch w bytes → IsSomeAnd result (λ r. r ≡ w)
watch_only bytes (Some v) e w s = some_is v w (sym e ∙ watch_again w bytes s)
watch_only bytes None e w s = let some = watch_again w bytes s in absurd cc

pub notice_is : (bytes : List ℕ) (result : Option Notice) → IsBytes bytes
    → Finds (λ (x : Notice). x) result (notice_of bytes) → IfSome result (λ n. SpellsNotice n bytes)
notice_is bytes (Some n) h e = notice_found bytes n h e
notice_is bytes None h e = tt

pub notice_only : (bytes : List ℕ) (result : Option Notice) → Finds (λ (x : Notice). x) result (notice_of bytes)
    → (n : Notice) → SpellsNotice n bytes → IsSomeAnd result (λ r. r ≡ n)
notice_only bytes (Some m) e n s = some_is m n (sym e ∙ notice_again n bytes s)
notice_only bytes None e n s = let some = notice_again n bytes s in absurd cc
