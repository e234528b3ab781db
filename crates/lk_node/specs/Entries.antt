-- When the entries of a live file fit a history, and what each further entry presupposes.
use Rattle.std.specs.Prelude.{◌≡◌, ℕ, List, length}
use Rattle.lk_types.specs.declared.entry.Entry.{Entry}
use Rattle.lk_types.specs.declared.entry.Entry.TheVariants.{Promise, Vote, Decided}
use Rattle.lk_store_format.specs.Values.{StandingValue}
use Rattle.lk_store_format.specs.Standings.{HasHeader, StandsFor}
use Rattle.lk_store_format.specs.declared.stored.Stored.{Stored}
use Rattle.lk_state.specs.Meanings.{Meaning}
use Rattle.lk_agreement_laws.specs.Datagrams.{Accept, WasSent}
use Rattle.lk_agreement_laws.specs.Chosen.{ChosenAt}
use Rattle.lk_agreement_laws.specs.Acceptors.{CoversSent}
use Rattle.lk_agreement_laws.specs.Nodes.{Stems}
use Rattle.lk_node.specs.Histories.{History, Command}
use Rattle.lk_node.specs.Reaching.{AllLieNear}
use Rattle.lk_node.specs.BorneOut.{text}
use Rattle.lk_node.specs.Leavings.{header_of, acceptor_of, paxos_of}

-- what the whole entries of a live file have to be, for the image to fit
pub record EntriesFit (m : Meaning) (h : History) (n : ℕ) (es : List Stored) : Type 0 where
  pub standing : StandingValue
  pub header : HasHeader es (header_of h.genesis n)
  pub stands : StandsFor es standing
  pub under : List Command
  pub position : length under ≡ standing.position
  pub snapshot : standing.snapshot ≡ text m h.genesis under
  pub covers : CoversSent h.genesis h.sent n (acceptor_of standing)
  pub stems : Stems h.genesis h.sent (paxos_of standing under)
  pub near : AllLieNear h.genesis.alpha standing

-- a vote rests on its Accept, which was sent, a decided command on being chosen, and a promise on nothing
abbrev pub Rests : History → Entry → Type 0
Rests h (Promise b) = Unit {0}
Rests h (Vote x) = WasSent h.genesis h.sent (Accept x)
Rests h (Decided i c) = ChosenAt h.genesis h.sent i c
