-- What a receive buffer keeps of the frames that arrive: the first probe and the first watch that the node answers, and
-- the first report that replies to a node.
use Rattle.std.specs.Prelude.{◌≡◌, ⊤, ◌++◌, ℕ, [], List, ◌∷◌, Option, Some, None}
use Rattle.std.specs.List.{AllByRecursion}
use Rattle.std.specs.declared.net.socket_addr.SocketAddr.{SocketAddr}
use Rattle.lk_auth.specs.declared.seals.Seals.{Seals}
use Rattle.lk_transport.specs.Askers.{BringsProbe}
use Rattle.lk_transport.specs.ReceiveBuffers.{BufferValue}
use Rattle.lk_transport.specs.Inquiring.{IsReportedBy}
use Rattle.lk_transport.specs.Watches.{BringsWatch}

-- ---- the first of what frames bring. `Brings` says what a frame brings, if anything

module _ {K : Type 0} (Brings : SocketAddr × List ℕ → Option K → Type 0) where
  -- none of these frames brings anything
  abbrev pub BringNothing : List (SocketAddr × List ℕ) → Type 0
  BringNothing frames = AllByRecursion (λ (d : SocketAddr × List ℕ). Brings d None) frames

  -- one of these frames brings this, and no earlier one anything
  pub record BringsFirst (frames : List (SocketAddr × List ℕ)) (k : K) : Type 0 where
    pub before : List (SocketAddr × List ℕ)
    pub frame : SocketAddr × List ℕ
    pub after : List (SocketAddr × List ℕ)
    pub are : frames ≡ before ++ frame ∷ after
    pub none : BringNothing before
    pub brings : Brings frame (Some k)

  -- what the first of these frames that brings anything brings, if there is one
  abbrev pub IsFirstOf : List (SocketAddr × List ℕ) → Option K → Type 0
  IsFirstOf frames None = BringNothing frames
  IsFirstOf frames (Some k) = BringsFirst frames k

  -- one is kept of these frames: the one that was kept before, or else the first
  abbrev pub KeepsFirstOf : Option K → List (SocketAddr × List ℕ) → Option K → Type 0
  KeepsFirstOf (Some k) frames new = new ≡ Some k
  KeepsFirstOf None frames new = IsFirstOf frames new

  -- what the frame that came last brings, if one did
  abbrev pub IsBroughtLast : Option (SocketAddr × List ℕ) → Option K → Type 0
  IsBroughtLast None new = new ≡ None
  IsBroughtLast (Some d) new = Brings d new

  -- one is kept: the one that was kept before, or else what came last
  abbrev pub KeepsFirst : Option (SocketAddr × List ℕ) → Option K → Option K → Type 0
  KeepsFirst last (Some k) new = new ≡ Some k
  KeepsFirst last None new = IsBroughtLast last new

-- ---- which of these frames bring a probe, a report or a watch

-- it brings none
abbrev pub BringsNone : Seals → SocketAddr × List ℕ → Type 0
BringsNone s d = BringsProbe s d None × IsReportedBy s d None × BringsWatch s d None

-- none but the last of these brings one
abbrev pub OnlyLastBrings : Seals → List (SocketAddr × List ℕ) → Type 0
OnlyLastBrings s [] = ⊤
OnlyLastBrings s (d ∷ []) = ⊤
OnlyLastBrings s (d ∷ e ∷ more) = BringsNone s d × OnlyLastBrings s (e ∷ more)

-- ---- what the buffer of a node keeps

-- of the frame that came last
pub record KeepsLast (s : Seals) (old new : BufferValue) : Type 0 where
  pub last : new.last ≡ old.last
  pub asked : KeepsFirst (BringsProbe s) old.last old.asked new.asked
  pub reported : KeepsFirst (IsReportedBy s) old.last old.reported new.reported
  pub watched : KeepsFirst (BringsWatch s) old.last old.watched new.watched

-- of these frames, none of which but the last brings anything, if nothing was kept before: so nothing that they bring
-- is lost
pub record KeepsOf (s : Seals) (frames : List (SocketAddr × List ℕ)) (old new : BufferValue) : Type 0 where
  pub asked : KeepsFirstOf (BringsProbe s) old.asked frames new.asked
  pub reported : KeepsFirstOf (IsReportedBy s) old.reported frames new.reported
  pub watched : KeepsFirstOf (BringsWatch s) old.watched frames new.watched
  pub last : old.asked ≡ None → old.reported ≡ None → old.watched ≡ None → OnlyLastBrings s frames
