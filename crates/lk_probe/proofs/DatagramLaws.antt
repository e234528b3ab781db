-- A probe and a report read what their spellings are, and neither is another datagram.
use Rattle.std.proofs.Common.{◌≡◌, ℕ, ◌+◌, ◌<◌, ◌^◌, lit<, Bool, true, false, List, ◌++◌, length, take, drop, get_or}
use Rattle.std.proofs.Common.{Option, Some, None, refl, sym, ap, subst, ◌∙◌, arith}
use Rattle.std.proofs.lemmas.List.{length-append}
use Rattle.std.specs.Prelude.{is_some, IfSome, IsSomeAnd}
use Rattle.std.proofs.lemmas.Nat.{from_be_bytes-to_be_bytes_2}
use Rattle.lk_types.specs.Ranges.{IsClient}
use Rattle.lk_auth.specs.Clients.{client_in}
use Rattle.lk_auth.specs.Seals.{only_request}
use Rattle.lk_codec.specs.Fields.{two, four, eight}
use Rattle.lk_messages.specs.declared.message.Message.{Message}
use Rattle.lk_messages.specs.Grammar.{Spells}
use Rattle.lk_codec.specs.Parser.{Finds}
use Rattle.lk_codec.proofs.Spellings.{IsBytes, IsBytes-drop, IsBytes-take, some_is, Reads}
use Rattle.lk_probe.specs.Grammar.{or_zero, form, front, probe, report, padded, blank, reach_in, probe_spelling}
use Rattle.lk_probe.specs.Grammar.{report_spelling, IsProbe, IsReach, IsReport, SpellsProbe, SpellsReport}
use Rattle.lk_probe.specs.Reading.{fronted, read_blank, read_tail, read_probe_fields, read_report_fields, probe_in}
use Rattle.lk_probe.specs.Reading.{probe_of, report_in, report_of}
use Rattle.lk_probe.specs.declared.probe.Probe.{Probe}
use Rattle.lk_probe.specs.declared.probe.Report.{Report}
use Rattle.lk_probe.specs.declared.reach.Reach.{Reach}
use Rattle.lk_probe.proofs.Codec.{fronted_reads, filled_takes, filled_again, length-padded, cut_takes, cut_again}
use Rattle.lk_probe.proofs.Codec.{joined}
use Rattle.lk_probe.proofs.PartLaws.{IsProbeThat, IsReportWith, probe_fields_reads, report_fields_reads, tail_takes}
use Rattle.lk_probe.proofs.PartLaws.{tail_again, blank_takes, blank_again, length-reach}
use Rattle.lk_probe.proofs.Lengths.{length-probe, length-report}

probe_reads : (asks : Bool) → Reads (fronted (form asks) 9 (read_probe_fields asks))
    (λ (p : Probe). front (form asks) 9 (probe p)) (IsProbeThat asks)
probe_reads asks =
    fronted_reads (form asks) 9 (read_probe_fields asks) probe (IsProbeThat asks) (probe_fields_reads asks)

report_reads : (reach : Option Reach) → IfSome reach IsReach
    → Reads (fronted (form (is_some reach)) 10 (read_report_fields reach))
    (λ (r : Report). front (form (is_some reach)) 10 (report r)) (IsReportWith reach)
report_reads reach fits =
    fronted_reads (form (is_some reach)) 10 (read_report_fields reach) report (IsReportWith reach)
    (report_fields_reads reach fits)

-- ---- what is read

pub probe_found : (bytes : List ℕ) (p : Probe) → IsBytes bytes → probe_of bytes ≡ Some p → SpellsProbe p bytes
unfolding probe_of probe_in
probe_found bytes p h e =
    let a = cut_takes read_blank probe_in bytes p e in
    let asks = a.0 in
    let found = filled_takes (fronted (form asks) 9 (read_probe_fields asks))
    (λ (p : Probe). front (form asks) 9 (probe p)) (IsProbeThat asks) (probe_reads asks) (take 174 bytes) p
    (IsBytes-take 174 bytes h) a.2 in (
      found.0.0,
      subst (λ (b : Bool). bytes ≡ padded (front (form b) 9 (probe p)) ++ blank b) (sym found.0.1)
          (joined bytes (padded (front (form asks) 9 (probe p))) (blank asks) found.1
          (blank_takes (drop 174 bytes) asks a.1)),
    )

pub probe_again : (p : Probe) (bytes : List ℕ) → SpellsProbe p bytes → probe_of bytes ≡ Some p
unfolding probe_of probe_in
probe_again p bytes s = ap probe_of s.1
    ∙ cut_again read_blank probe_in (padded (front (form p.asks_reach) 9 (probe p))) (blank p.asks_reach) p p.asks_reach
    (length-padded (front (form p.asks_reach) 9 (probe p)) (omega (arith, length-probe (form p.asks_reach) p s.0)))
    (blank_again p.asks_reach)
    (filled_again (fronted (form p.asks_reach) 9 (read_probe_fields p.asks_reach))
    (λ (p' : Probe). front (form p.asks_reach) 9 (probe p')) (IsProbeThat p.asks_reach) (probe_reads p.asks_reach) p
    (s.0, refl) (omega (arith, length-probe (form p.asks_reach) p s.0)))

pub report_found : (bytes : List ℕ) (r : Report) → IsBytes bytes → report_of bytes ≡ Some r → SpellsReport r bytes
unfolding report_of report_in
report_found bytes r h e =
    let a = cut_takes read_tail report_in bytes r e in
    let reach = a.0 in
    let last = tail_takes (drop 174 bytes) reach (IsBytes-drop 174 bytes h) a.1 in
    let found = filled_takes (fronted (form (is_some reach)) 10 (read_report_fields reach))
    (λ (r : Report). front (form (is_some reach)) 10 (report r)) (IsReportWith reach) (report_reads reach last.0)
    (take 174 bytes) r (IsBytes-take 174 bytes h) a.2 in (
      found.0.0,
      subst (λ (o : Option Reach). bytes ≡ padded (front (form (is_some o)) 10 (report r)) ++ reach_in o)
          (sym found.0.1)
          (joined bytes (padded (front (form (is_some reach)) 10 (report r))) (reach_in reach) found.1 last.1),
    )

pub report_again : (r : Report) (bytes : List ℕ) → SpellsReport r bytes → report_of bytes ≡ Some r
unfolding report_of report_in
report_again r bytes s =
    let f = form (is_some r.reach) in
    ap report_of s.1
    ∙ cut_again read_tail report_in (padded (front f 10 (report r))) (reach_in r.reach) r r.reach
    (length-padded (front f 10 (report r)) (length-report f r s.0)) (tail_again r.reach s.0.5)
    (filled_again (fronted f 10 (read_report_fields r.reach))
    (λ (r' : Report). front f 10 (report r')) (IsReportWith r.reach) (report_reads r.reach s.0.5) r (s.0, refl)
    (length-report f r s.0))

-- ---- the laws

pub one_probe : (p q : Probe) (bytes : List ℕ) → SpellsProbe p bytes → SpellsProbe q bytes → p ≡ q
one_probe p q bytes s t = some_is p q (sym (probe_again p bytes s) ∙ probe_again q bytes t)

pub one_report : (r s : Report) (bytes : List ℕ) → SpellsReport r bytes → SpellsReport s bytes → r ≡ s
one_report r s bytes a b = some_is r s (sym (report_again r bytes a) ∙ report_again s bytes b)

spelled_probe : (p : Probe) → IsProbe p → length (probe_spelling p) ≡ 174 + length (blank p.asks_reach)
spelled_probe p f =
    omega (
      arith,
      length-append (padded (front (form p.asks_reach) 9 (probe p))) (blank p.asks_reach),
      length-padded (front (form p.asks_reach) 9 (probe p)) (omega (arith, length-probe (form p.asks_reach) p f)),
    )

pub probe_length_is : (p : Probe) (bytes : List ℕ) → SpellsProbe p bytes → p.asks_reach ≡ false → length bytes ≡ 174
probe_length_is p bytes s is =
    let none : length (blank p.asks_reach) ≡ 0 = ap (λ (b : Bool). length (blank b)) is in
    ap length s.1 ∙ omega (arith, spelled_probe p s.0, none)

pub long_probe_length_is : (p : Probe) (bytes : List ℕ) → SpellsProbe p bytes → p.asks_reach ≡ true
    → length bytes ≡ 206
long_probe_length_is p bytes s is =
    let more : length (blank p.asks_reach) ≡ 32 = ap (λ (b : Bool). length (blank b)) is in
    ap length s.1 ∙ omega (arith, spelled_probe p s.0, more)

spelled_report : (r : Report) → IsReport r → length (report_spelling r) ≡ 174 + length (reach_in r.reach)
spelled_report r f =
    omega (
      arith,
      length-append (padded (front (form (is_some r.reach)) 10 (report r))) (reach_in r.reach),
      length-padded (front (form (is_some r.reach)) 10 (report r)) (length-report (form (is_some r.reach)) r f),
    )

length-tail : (o : Option Reach) (is : Bool) → IfSome o IsReach → is_some o ≡ is
    → length (reach_in o) ≡ length (blank is)
length-tail None false f e = refl
length-tail None true f e = absurd cc
length-tail (Some t) true f e = length-reach t f
length-tail (Some t) false f e = absurd cc

pub report_length_is : (r : Report) (bytes : List ℕ) → SpellsReport r bytes → is_some r.reach ≡ false
    → length bytes ≡ 174
report_length_is r bytes s is =
    ap length s.1 ∙ omega (arith, spelled_report r s.0, length-tail r.reach false s.0.5 is)

pub long_report_length_is : (r : Report) (bytes : List ℕ) → SpellsReport r bytes → is_some r.reach ≡ true
    → length bytes ≡ 206
long_report_length_is r bytes s is =
    ap length s.1 ∙ omega (arith, spelled_report r s.0, length-tail r.reach true s.0.5 is)

-- the second letter, and which of both it is

pub probe_letters : (p : Probe) (bytes : List ℕ) → SpellsProbe p bytes
    → (get_or bytes 1 0 ≡ 80) × (get_or bytes 3 0 ≡ 9)
unfolding padded
probe_letters p bytes s = (ap (λ (w : List ℕ). get_or w 1 0) s.1, ap (λ (w : List ℕ). get_or w 3 0) s.1)

pub report_letters : (r : Report) (bytes : List ℕ) → SpellsReport r bytes
    → (get_or bytes 1 0 ≡ 80) × (get_or bytes 3 0 ≡ 10)
unfolding padded
report_letters r bytes s = (ap (λ (w : List ℕ). get_or w 1 0) s.1, ap (λ (w : List ℕ). get_or w 3 0) s.1)

pub message_letter : (m : Message) (bytes : List ℕ) → Spells m bytes → get_or bytes 1 0 ≡ 75
message_letter m bytes s = ap (λ (w : List ℕ). get_or w 1 0) s.1

-- ---- in a frame

pub is_of_a_client : (p : Probe) (bytes : List ℕ) → SpellsProbe p bytes → only_request bytes ≡ bytes
unfolding padded
is_of_a_client p bytes s = rw s.1 refl

most_of : (o : Option ℕ) → IfSome o IsClient → or_zero o < 2 ^ 16
most_of None f = lit< tt
most_of (Some n) f = omega (arith, f.1)

pub names_its_client : (p : Probe) (bytes : List ℕ) → SpellsProbe p bytes → client_in bytes ≡ or_zero p.client
unfolding padded two four eight
names_its_client p bytes s = rw s.1 (from_be_bytes-to_be_bytes_2 (or_zero p.client) (most_of p.client s.0.2))

-- ---- what reading promises

pub probe_is : (bytes : List ℕ) (result : Option Probe) → IsBytes bytes
    → Finds (λ (x : Probe). x) result (probe_of bytes) → IfSome result (λ p. SpellsProbe p bytes)
probe_is bytes (Some p) h e = probe_found bytes p h e
probe_is bytes None h e = tt

pub probe_only : (bytes : List ℕ) (result : Option Probe) → Finds (λ (x : Probe). x) result (probe_of bytes)
    → (p : Probe) → SpellsProbe p bytes → IsSomeAnd result (λ r. r ≡ p)
probe_only bytes (Some q) e p s = some_is q p (sym e ∙ probe_again p bytes s)
probe_only bytes None e p s = let some = probe_again p bytes s in absurd cc

pub report_is : (bytes : List ℕ) (result : Option Report) → IsBytes bytes
    → Finds (λ (x : Report). x) result (report_of bytes) → IfSome result (λ r. SpellsReport r bytes)
report_is bytes (Some r) h e = report_found bytes r h e
report_is bytes None h e = tt

pub report_only : (bytes : List ℕ) (result : Option Report) → Finds (λ (x : Report). x) result (report_of bytes)
    → (r : Report) → SpellsReport r bytes → IsSomeAnd result (λ s. s ≡ r)
report_only bytes (Some q) e r s = some_is q r (sym e ∙ report_again r bytes s)
report_only bytes None e r s = let some = report_again r bytes s in absurd cc
