-- An op that a look shows to be safe.
use Rattle.std.proofs.Common.{◌≡◌, Bool, true, ℕ, List, subst}
use Rattle.std.specs.Prelude.{IsTrue}
use Rattle.std.specs.declared.net.socket_addr.SocketAddr.{SocketAddr}
use Rattle.lk_types.specs.declared.command.Op.{Op}
use Rattle.lk_transport.specs.Streams.{Stream}
use Rattle.lk_status.specs.Looks.{AsksAlike, IsShown}
use Rattle.lk_status.specs.declared.target.Inquiry.{Inquiry}
use Rattle.lk_main.specs.Looks.{IsShownSafe}

pub shown_safe : {S : Type 0} {sent : S → List (SocketAddr × List ℕ)} {incoming : S → Stream} {failures : S → ℕ}
    {observable : Type 0} {i asked : Inquiry} {op : Op} {safe : Bool} {ended : S}
    → AsksAlike i asked → IsShown sent incoming failures observable asked op safe ended → IsTrue safe
    → IsShownSafe sent incoming failures observable i op
shown_safe {sent = sent} {incoming = incoming} {failures = failures} {observable = observable} {asked = asked} {op = op}
    {ended = ended} alike shown safe = record {
      asked = asked;
      alike = alike;
      ended = ended;
      shown = subst (λ (b : Bool). IsShown sent incoming failures observable asked op b ended) safe shown;
    }
