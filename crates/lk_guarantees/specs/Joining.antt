-- Who joins was never a member before: the number of a node that has left is not given to another one.
use Rattle.std.specs.Prelude.{◌≡◌, ℕ, ◌-◌, ◌<◌, List, take, Contains}
use Rattle.lk_types.specs.declared.answer.Answer.TheVariants.{Joined}
use Rattle.lk_types.specs.declared.command.Command.{Command}
use Rattle.lk_types.specs.declared.command.Op.TheVariants.{Join}
use Rattle.lk_types.specs.declared.command.Request.{Request as Asking}
use Rattle.lk_types.specs.declared.genesis.Genesis.{Genesis}
use Rattle.lk_types.specs.declared.member.Member.{Member}
use Rattle.lk_guarantees.specs.Plain.{after, execute, TakesEffectAt}

-- the node joins by the entry at this position of the list: a request for it takes effect there, and is granted
pub record JoinsAt (genesis : Genesis) (L : List Command) (node i : ℕ) : Type 0 where
  pub request : Asking
  pub is_effective : TakesEffectAt genesis L i request
  pub port : ℕ
  pub asks : request.op ≡ Join node port
  pub granted : (execute request.client request.op (after genesis (take (i - 1) L))).0 ≡ Joined

-- no entry before that one has left the node a member. So each number joins at most once, and none of the genesis does
abbrev pub JoinsOnce : Genesis → List Command → Type 0
JoinsOnce genesis L =
    (node i k : ℕ) → JoinsAt genesis L node i → k < i → (m : Member)
    → Contains (after genesis (take k L)).members m → m.node ≡ node → ⊥
