-- What a contract sees of an acceptor.
use Rattle.std.specs.Prelude.{ℕ}
use Rattle.lk_agreement_laws.specs.Acceptors.{AcceptorState}

-- how many positions ahead the members are known, and what the acceptor holds
pub record AcceptorValue : Type 0 where
  pub alpha : ℕ
  pub state : AcceptorState
