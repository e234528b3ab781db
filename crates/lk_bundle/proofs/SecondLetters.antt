-- The second letter tells a bundle from everything else.
use Rattle.std.proofs.Common.{◌≡◌, ℕ, List, get_or, ap}
use Rattle.lk_auth.specs.Frames.{sealed}
use Rattle.lk_auth.specs.declared.frame.Scope.{Scope}
use Rattle.lk_messages.specs.Grammar.{Spells}
use Rattle.lk_messages.specs.declared.message.Message.{Message}
use Rattle.lk_probe.specs.Grammar.{padded, SpellsProbe, SpellsReport}
use Rattle.lk_probe.specs.declared.probe.Probe.{Probe}
use Rattle.lk_probe.specs.declared.probe.Report.{Report}
use Rattle.lk_bundle.specs.Bundles.{Bundles}

pub bundle_letter : (ds : List (List ℕ)) (bytes : List ℕ) → Bundles ds bytes → get_or bytes 1 0 ≡ 66
bundle_letter ds bytes b = ap (λ (w : List ℕ). get_or w 1 0) b.is

pub message_letter : (m : Message) (bytes : List ℕ) → Spells m bytes → get_or bytes 1 0 ≡ 75
message_letter m bytes s = ap (λ (w : List ℕ). get_or w 1 0) s.1

pub probe_letter : (p : Probe) (bytes : List ℕ) → SpellsProbe p bytes → get_or bytes 1 0 ≡ 80
unfolding padded
probe_letter p bytes s = ap (λ (w : List ℕ). get_or w 1 0) s.1

pub report_letter : (r : Report) (bytes : List ℕ) → SpellsReport r bytes → get_or bytes 1 0 ≡ 80
unfolding padded
report_letter r bytes s = ap (λ (w : List ℕ). get_or w 1 0) s.1

pub frame_letter : (key : List ℕ) (s : Scope) (d bytes : List ℕ) → bytes ≡ sealed key s d → get_or bytes 1 0 ≡ 83
unfolding sealed
frame_letter key s d bytes e = ap (λ (w : List ℕ). get_or w 1 0) e
