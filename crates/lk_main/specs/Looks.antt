-- A look at the members that shows a join or a leave to be safe, which join it warns of, and where a client that waits
-- asks.
use Rattle.std.specs.Prelude.{ℕ, ◌*◌, Bool, true, nat_lt, if◌then◌else◌, Option, Some, None, List, []}
use Rattle.std.specs.Prelude.{◌++◌, codes}
use Rattle.std.specs.Fmt.{decimal}
use Rattle.std.specs.List.{list_all}
use Rattle.std.specs.declared.net.socket_addr.SocketAddr.{SocketAddr}
use Rattle.lk_types.specs.declared.command.Op.{Op}
use Rattle.lk_types.specs.declared.command.Op.TheVariants.{Table, Join, Leave, Raise}
use Rattle.lk_transport.specs.Streams.{Stream}
use Rattle.lk_client.specs.declared.destination.Destination.{Destination}
use Rattle.lk_client.specs.declared.question.Question.{Question}
use Rattle.lk_status.specs.Looks.{AsksAlike, IsShown}
use Rattle.lk_status.specs.declared.target.Inquiry.{Inquiry}
use Rattle.lk_status.specs.declared.target.Target.{Target}

-- two rounds that were heard by such an asker show that the op is safe
pub record IsShownSafe {S : Type 0} (sent : S → List (SocketAddr × List ℕ)) (incoming : S → Stream) (failures : S → ℕ)
    (observable : Type 0) (i : Inquiry) (op : Op) : Type 0 where
  pub asked : Inquiry
  pub alike : AsksAlike i asked
  pub ended : S
  pub shown : IsShown sent incoming failures observable asked op true ended

-- ---- a wait for a lock

-- the question, as it is asked there
abbrev pub directed : Destination → Question → Question
directed d q = record q { destination = d }

-- ---- a join of a number that is far above those of the members

-- it is above twice that number, where it is known
abbrev pub is_above_twice : ℕ → Option ℕ → Bool
is_above_twice node None = true
is_above_twice node (Some member) = nat_lt (2 * member) node

-- it is above twice the number of each of these
abbrev pub is_far : ℕ → List Target → Bool
is_far node ts = list_all (λ (t : Target). is_above_twice node t.node) ts

abbrev pub far_line : ℕ → List ℕ
far_line node =
    codes "warning: node "
    ++ (decimal node ++ codes " is above twice the greatest member: no smaller number can join after it\n")

-- what is written of an op whose targets are the members
abbrev pub far_text : Op → List Target → List ℕ
far_text (Table body) ts = []
far_text (Join node port) ts = if is_far node ts then far_line node else []
far_text (Leave node) ts = []
far_text Raise ts = []
