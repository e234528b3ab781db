-- What is noted over several inputs.
use Rattle.std.proofs.Common.{◌≡◌, ◌∙◌, ℕ, List, Option, None, ap, sym, subst}
use Rattle.lk_node_interface.specs.declared.input.Input.TheVariants.{Datagram}
use Rattle.lk_address_book.specs.Addresses.{Filter, IsSameFilter}
use Rattle.lk_address_book.specs.Senders.{IsSentBy}
use Rattle.lk_probe.specs.declared.state_digest.StateDigest.{StateDigest}
use Rattle.lk_replica.specs.Groups.{GroupValue}
use Rattle.lk_server_replica.specs.declared.replica_status.ReplicaStatus.{ReplicaStatus}
use Rattle.lk_server.specs.Gatherings.{WithholdsQuiet}
use Rattle.lk_server.specs.Servers.{ServerValue, KeepsCounts, MayWithhold, TakesPeriodEnd, IsSameServer, one_more_tick}
use Rattle.lk_server.specs.StepNotes.{Noted, NotesAll, NotesInput, NotesInputs, NotesNone, NotesWithheld, Takings}
use Rattle.lk_server.specs.StepNotes.{noted, nothing, datagram, period, withheld, one_period_more}

-- a sender that was recorded changes nothing that is noted
pub noted_heard : {R : Type 0} (old new : ServerValue R) → new ≡ record old { addresses = new.addresses }
    → IsSameFilter old.addresses new.addresses → noted new ≡ noted old
noted_heard {R} old new others network =
    ap (λ (s : ServerValue R). noted s) others
    ∙ ap (λ (f : Filter). record (noted old) { deaf = f.deaf }) network.1

-- nor does the end of a group
pub noted_ended : {R : Type 0} (old new : ServerValue R) → KeepsCounts old new → IsSameServer old new
    → new.addresses ≡ old.addresses → noted new ≡ noted old
noted_ended old new counts same book = λ i. record {
  digest = counts.digest i;
  fed = counts.fed i;
  quiet = counts.quiet i;
  ticks = counts.ticks i;
  withheld = counts.withheld i;
  cluster = same.cluster i;
  pace = same.pace i;
  deaf = (book i).deaf;
}

-- a tick that was withheld is noted
pub noted_withheld : {R : Type 0} (HasStatus : R → ReplicaStatus → Type 0) (old new : ServerValue R) → MayWithhold old
    → WithholdsQuiet HasStatus old new
    → new ≡ record old { withheld = one_more_tick old.withheld; quiet = new.quiet }
    → NotesWithheld HasStatus old.replica (noted old) (noted new)
noted_withheld {R} HasStatus old new may quiet counts = record {
  withholds = may.withholds;
  no_nudge = may.no_nudge;
  status = quiet.status;
  has = quiet.is;
  is = ap (λ (s : ServerValue R). noted s) counts
      ∙ ap (λ (n : ℕ). record (noted old) { withheld = one_more_tick old.withheld; quiet = n }) quiet.quiet;
}

module _ {R : Type 0} (Keeps : R → StateDigest → StateDigest → Type 0) (HasStatus : R → ReplicaStatus → Type 0) where
  -- a period was counted before the input
  pub noted_counted : (old counted new : ServerValue R) → counted ≡ record old { ticks = one_more_tick old.ticks }
      → NotesInput Keeps HasStatus None counted.replica new.replica (noted counted) (noted new)
      → NotesInput Keeps HasStatus None old.replica new.replica (one_period_more (noted old)) (noted new)
  noted_counted old counted new is notes =
      subst (λ (s : ServerValue R). NotesInput Keeps HasStatus None s.replica new.replica (noted s) (noted new)) is
      notes

-- and so it is of what was the same before
pub withheld_found : {R : Type 0} (HasStatus : R → ReplicaStatus → Type 0) (old mid new : ServerValue R)
    → mid.replica ≡ old.replica → noted mid ≡ noted old → NotesWithheld HasStatus mid.replica (noted mid) (noted new)
    → NotesWithheld HasStatus old.replica (noted old) (noted new)
withheld_found {R} HasStatus old mid new replica same one =
    subst (λ (r : R). NotesWithheld HasStatus r (noted old) (noted new)) replica
    (subst (λ (k : Noted). NotesWithheld HasStatus mid.replica k (noted new)) same one)

-- nothing was taken of what was the same before
pub none_noted : {R : Type 0} (HasStatus : R → ReplicaStatus → Type 0) (old begun new : ServerValue R) → begun ≡ old
    → NotesNone HasStatus begun new → NotesNone HasStatus old new
none_noted {R} HasStatus old begun new same =
    subst (λ (s : ServerValue R). NotesNone HasStatus s new) same

module _ {R : Type 0} (Takes : Takings R) (Keeps : R → StateDigest → StateDigest → Type 0)
    (HasStatus : R → ReplicaStatus → Type 0) where
  abbrev Steps : GroupValue → R → Noted → GroupValue → R → Noted → Type 0
  Steps = NotesInputs Takes Keeps HasStatus

  -- a datagram more
  pub notes_datagram : (bytes : List ℕ) (sender : Option ℕ) (group mid now : GroupValue)
      (old begun new : ServerValue R) (was : R) (kept : Noted) → IsSentBy begun.cluster bytes sender
      → NotesAll Takes Keeps HasStatus group mid old begun → was ≡ begun.replica → kept ≡ noted begun
      → Takes was mid (Datagram bytes) new.replica now
      → NotesInput Keeps HasStatus sender was new.replica kept (noted new)
      → NotesAll Takes Keeps HasStatus group now old new
  notes_datagram bytes sender group mid now old begun new was kept sent first replica same takes notes =
      datagram bytes sender sent first
      (subst (λ (r : R). Takes r mid (Datagram bytes) new.replica now) replica takes)
      (subst (λ (r : R). NotesInput Keeps HasStatus sender r new.replica (noted begun) (noted new)) replica
      (subst (λ (k : Noted). NotesInput Keeps HasStatus sender was new.replica k (noted new)) same notes))

  -- what ends a period
  pub notes_period : (group mid now : GroupValue) (old begun new : ServerValue R)
      → NotesAll Takes Keeps HasStatus group mid old begun → TakesPeriodEnd Takes mid now begun new
      → NotesInput Keeps HasStatus None begun.replica new.replica (one_period_more (noted begun)) (noted new)
      → NotesAll Takes Keeps HasStatus group now old new
  notes_period group mid now old begun new first tick notes = period tick.input tick.ends first tick.takes notes

  -- a tick that was withheld
  pub notes_withheld : (group now : GroupValue) (old begun new : ServerValue R)
      → NotesAll Takes Keeps HasStatus group now old begun → new.replica ≡ begun.replica
      → NotesWithheld HasStatus begun.replica (noted begun) (noted new)
      → NotesAll Takes Keeps HasStatus group now old new
  notes_withheld group now old begun new first replica one =
      subst (λ (r : R). Steps group old.replica (noted old) now r (noted new)) (sym replica) (withheld first one)

  -- several inputs more
  pub notes_both : (group mid now : GroupValue) (old one new : ServerValue R)
      → NotesAll Takes Keeps HasStatus group mid old one → NotesAll Takes Keeps HasStatus mid now one new
      → NotesAll Takes Keeps HasStatus group now old new
  notes_both group mid now old one new first last = both first last where
    both : {m : GroupValue} {s : R} {e : Noted} {n : GroupValue} {t : R} {f : Noted}
        → Steps group old.replica (noted old) m s e → Steps m s e n t f → Steps group old.replica (noted old) n t f
    both front nothing = front
    both front (datagram bytes sender sent back takes notes) =
        datagram bytes sender sent (both front back) takes notes
    both front (period input ends back takes notes) = period input ends (both front back) takes notes
    both front (withheld back one) = withheld (both front back) one

  -- between servers with the same replica, of which the same is noted as of these
  pub notes_as : (group now : GroupValue) (old begun mid new : ServerValue R)
      → begun.replica ≡ old.replica → noted begun ≡ noted old → new.replica ≡ mid.replica → noted new ≡ noted mid
      → NotesAll Takes Keeps HasStatus group now begun mid → NotesAll Takes Keeps HasStatus group now old new
  notes_as group now old begun mid new replica first after last notes =
      subst (λ (r : R). Steps group old.replica (noted old) now r (noted new)) (sym after)
      (subst (λ (k : Noted). Steps group old.replica (noted old) now mid.replica k) (sym last)
      (subst (λ (r : R). Steps group r (noted old) now mid.replica (noted mid)) replica
      (subst (λ (k : Noted). Steps group begun.replica k now mid.replica (noted mid)) first notes)))

  -- nothing was taken
  pub notes_none : (group now : GroupValue) (old new : ServerValue R) → now ≡ group → new ≡ old
      → NotesAll Takes Keeps HasStatus group now old new
  notes_none group now old new grouped same =
      subst (λ (g : GroupValue). NotesAll Takes Keeps HasStatus group g old new) (sym grouped)
      (subst (λ (s : ServerValue R). NotesAll Takes Keeps HasStatus group group old s) (sym same) nothing)
