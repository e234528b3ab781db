-- How long a probe and a report are before zeros stand behind.
use Rattle.std.proofs.Common.{◌≡◌, ℕ, ◌*◌, ◌≤◌, List, [], ◌∷◌, Option, Some, None, length, refl, arith}
use Rattle.std.specs.Prelude.{IfSome}
use Rattle.std.specs.List.{flat_map}
use Rattle.std.proofs.lemmas.List.{length-append}
use Rattle.std.proofs.lemmas.List.Concat.{flat_map-cons}
use Rattle.lk_types.specs.declared.member.Member.{Member}
use Rattle.lk_codec.specs.Fields.{member}
use Rattle.lk_codec.proofs.Spellings.{length-two, length-four, length-eight}
use Rattle.lk_probe.specs.Grammar.{identity, status, front, genesis_in, probe, report, IsOrigin, IsProbe, IsStatus}
use Rattle.lk_probe.specs.Grammar.{IsReport}
use Rattle.lk_probe.specs.declared.neighbours.Origin.{Origin}
use Rattle.lk_probe.specs.declared.status.Identity.{Identity}
use Rattle.lk_probe.specs.declared.status.Status.{Status}
use Rattle.lk_probe.specs.declared.probe.Probe.{Probe}
use Rattle.lk_probe.specs.declared.probe.Report.{Report}

length-members : (ms : List Member) → length (flat_map member ms) ≡ 6 * length ms
length-members [] = refl
length-members (m ∷ ms) =
    rw (flat_map-cons member m ms) (simp (length-append, length-two, length-four) (omega (arith, length-members ms)))

length-identity : (i : Identity) → length i.genesis ≡ 32 → length (identity i) ≡ 37
length-identity i e = simp length-append (omega (arith, e))

length-genesis : (o : Option Origin) → IfSome o IsOrigin → length (genesis_in o) ≡ 32
length-genesis None f = refl
length-genesis (Some o) f = f.1

pub length-probe : (n : ℕ) (p : Probe) → IsProbe p → length (front n 9 (probe p)) ≡ 58
length-probe n p f =
    simp (length-append, length-two, length-four, length-eight) (omega (arith, length-genesis p.origin f.1))

length-status : (s : Status) → IsStatus s → length (status s) ≤ 148
length-status s f =
    simp (length-append, length-two, length-four, length-eight) (omega (arith, f.0.0, f.4.1, length-members s.members))

pub length-report : (n : ℕ) (r : Report) → IsReport r → length (front n 10 (report r)) ≤ 174
length-report n r f = simp (length-append, length-two, length-four, length-eight)
    (omega (arith, f.4.0.0, f.4.4.1, length-members r.status.members))
