-- A Base that is written in the middle of a group holds all that the node holds, so it takes the place of what waited
-- for a sync, as if that had been synced before.
use Rattle.std.proofs.Common.{◌≡◌, ℕ, inl, inr, Bool, true, false, List, [], ◌∷◌, ◌++◌, take, refl, sym, subst}
use Rattle.lk_messages.specs.declared.message.NodeMessage.{NodeMessage}
use Rattle.lk_store_format.specs.Entries.{plain}
use Rattle.lk_store_format.specs.Values.{BaseValue, StandingValue}
use Rattle.lk_store_format.specs.declared.stored.Stored.{Stored}
use Rattle.lk_store_format.specs.declared.stored.Stored.TheVariants.{Base}
use Rattle.lk_log.specs.Images.{IsLive}
use Rattle.lk_log.specs.StoreValue.{StoreValue, disks}
use Rattle.lk_log.specs.Stores.{FitsBase, HoldsEntries, KeepsOrIs, next_base}
use Rattle.lk_log.proofs.StoreLaws.{plain_take, rebase_every, synced_live}
use Rattle.lk_state.specs.Meanings.{Meaning}
use Rattle.lk_node.specs.Calls.{NodeFits}
use Rattle.lk_node.specs.Entries.{EntriesFit}
use Rattle.lk_node.specs.Histories.{History, Genesis}
use Rattle.lk_node.specs.Keeping.{StoreKeeps, ReplicaHolds, HoldsBeforeRebase}
use Rattle.lk_node.specs.Leavings.{header_of, DisksFit, AllCover}
use Rattle.lk_node.specs.NodeValue.{NodeValue}
use Rattle.lk_node.specs.NewBases.{standing_of, with_snapshot}
use Rattle.lk_node.specs.Reaching.{HoldsNear}
use Rattle.lk_node.specs.BorneOut.{text}
use Rattle.lk_recovery.specs.Rebased.{HasSwitchedFiles, KeepsOrBegins, MatchesBase}
use Rattle.lk_recovery.proofs.Recoveries.{EntriesCover, cover_entries, held_fit, fit_disks, entries_fit, grown_fit}
use Rattle.lk_recovery.proofs.Recoveries.{entries_cover, cover_more, none_asked, base_stands, base_fits, base_covers}
use Rattle.lk_recovery.proofs.Recoveries.{node_covers, files_switched, before_fits, goes_fits}
use Rattle.lk_replica.specs.Groups.{synced_if, as_synced, GroupFits, RemembersInGroup, GroupStays}
use Rattle.lk_replica.proofs.Grouped.{as_synced_holds, group_fits, whole_keeps, settle_leaves, settle_covers}

-- the Base is the same
same_base : (w : Bool) (s : StoreValue) (t : StandingValue) → next_base (synced_if w s) t ≡ next_base s t
same_base false s t = refl
same_base true s t = refl

-- ---- where it was written

-- the store has switched to it
pub based_switched : (m : Meaning) (Metered : Type 0) (node new : NodeValue) (w : Bool) (store after : StoreValue)
    → MatchesBase node store new after → HoldsNear node → HasSwitchedFiles m Metered node store new after
    → (ks ls : List Stored) → HoldsEntries store ks ls
    → HasSwitchedFiles m Metered node (synced_if w store) new after
based_switched m Metered node new w store after matches close done ks ls holds =
    subst (λ (k : NodeValue). HasSwitchedFiles m Metered node (synced_if w store) k after) (sym matches.becomes)
    (by_waits w)
  where
    alone : HoldsEntries after (Base (next_base store (standing_of node)) ∷ []) []
    alone = done.rebases.writes ks ls holds

    is_it : (xs ys : List Stored) → KeepsOrIs (disks after) xs ys (next_base store (standing_of node))
    is_it xs ys image left = inr (synced_live after (Base (next_base store (standing_of node)) ∷ []) alone image left)

    by_waits : (w : Bool) → HasSwitchedFiles m Metered node (synced_if w store) (with_snapshot node) after
    by_waits false =
        files_switched m node store after matches.fits_base close (λ xs ys h. is_it xs ys) Metered matches.generation
        (λ xs ys h. alone) done.calls done.short
    by_waits true =
        files_switched m node (as_synced store) after matches.fits_base close (λ xs ys h. is_it xs ys) Metered
        matches.generation (λ xs ys h. alone) done.calls done.short

-- what it leaves fits
pub based_fits : (m : Meaning) (h : History) (n : ℕ) (node : NodeValue) (old after : StoreValue)
    (f : NodeFits m h n (HoldsBeforeRebase m node old h.genesis n) (disks old)) (close : HoldsNear node)
    → FitsBase (standing_of node) → HoldsEntries after (Base (next_base old (standing_of node)) ∷ []) []
    → DisksFit m h n (disks after)
based_fits m h n node old after f close may holds =
    fit_disks m h n after (Base (next_base old (standing_of node)) ∷ []) (standing_of node) [] holds
    (base_stands m h.genesis n node old after f.shown.keeps may close.0.snapshot) tt tt
    (base_fits m h n node old after f.holding f.shown may close f.lawful f.fits)

-- where room was made by it, the node goes on
pub room_fits : (m : Meaning) (Metered : Type 0) (h : History) (n : ℕ) (node new : NodeValue) (store after : StoreValue)
    (w : Bool) → GroupFits m h n node store w → MatchesBase node store new after → HoldsNear node
    → HasSwitchedFiles m Metered node store new after
    → NodeFits m h n (ReplicaHolds m new after h.genesis n) (disks after)
room_fits m Metered h n node new store after w f matches close done =
    let k = f.shown.keeps in
    let mid = group_fits m h n node store w f in
    let old = synced_if w store in
    let goes = based_switched m Metered node new w store after matches close done k.entries (plain k.loose) k.holds in
    goes_fits m h n new after f.lawful
    (based_fits m h n node old after (before_fits m h n node old mid) close matches.fits_base
    (goes.rebases.writes mid.shown.keeps.entries (plain mid.shown.keeps.loose) mid.shown.keeps.holds))
    (goes.goes h n mid)

-- ---- at every exit

module _ (m : Meaning) (node based : NodeValue) (store after : StoreValue) (w : Bool) (close : HoldsNear based) where
  -- each image fits: the node whose Base it is fits as if everything that waits were synced
  pub based_ends : (h : History) (n : ℕ) (s : GroupStays m h n node store w)
      → NodeFits m h n (HoldsBeforeRebase m based (synced_if w store) h.genesis n) (disks (synced_if w store))
      → KeepsOrBegins based store s.fits.shown.keeps.entries (plain s.fits.shown.keeps.loose) after
      → DisksFit m h n (disks after)
  based_ends h n s f (inl keeps) = settle_leaves m h n node store after w s keeps
  based_ends h n s f (inr begins) =
      let k = s.fits.shown.keeps in
      let base = base_fits m h n based (synced_if w store) after f.holding f.shown begins.0 close f.lawful f.fits in
      entries_fit m h n (disks after) (λ image left. elim (begins.1 image left) [
        | inl at ↦ (
          k.entries ++ plain (take at.0 k.loose),
          inl (subst (λ (l : List Stored). IsLive image (k.entries ++ l)) (plain_take at.0 k.loose) at.1),
          grown_fit m h n k.entries k.standing k.loose k.stands
              (held_fit m h n store k.entries (plain k.loose) k.holds s.left) s.rests s.near at.0,
        )
        | inr alone ↦ (
          Base (next_base store (standing_of based)) ∷ [],
          inl alone,
          subst (λ (b : BaseValue). EntriesFit m h n (Base b ∷ [])) (same_base w store (standing_of based)) base,
        )
      ])

  module _ (genesis : Genesis) (n : ℕ) (r : RemembersInGroup node store w genesis n)
      (keeps : StoreKeeps (header_of genesis n) (synced_if w store) based.acceptor.state) (x : NodeMessage)
      (every : AllCover m genesis n (disks store) x) where
    -- what every image covers is covered once everything that waits is synced
    synced_covers : AllCover m genesis n (disks (synced_if w store)) x
    synced_covers = by_waits w r
      where
        by_waits : (w : Bool) → RemembersInGroup node store w genesis n
            → AllCover m genesis n (disks (synced_if w store)) x
        by_waits false r = every
        by_waits true r =
            let k = r.keeps in
            settle_covers m genesis n node store (as_synced store) true r
            (whole_keeps (as_synced store) k.entries (plain k.loose)
            (as_synced_holds store k.entries (plain k.loose) k.holds)) x every

    -- and by each image
    pub based_covers : KeepsOrBegins based store r.keeps.entries (plain r.keeps.loose) after
        → AllCover m genesis n (disks after) x
    based_covers (inl kept) = settle_covers m genesis n node store after w r kept x every
    based_covers (inr begins) =
        let k = r.keeps in
        let own = base_covers m genesis n based (synced_if w store) after keeps begins.0 close.0.snapshot x
        (node_covers m genesis n based (synced_if w store) after keeps begins.0 close.0.snapshot x synced_covers) in
        entries_cover m genesis n (disks after) x
        (rebase_every (EntriesCover genesis n x) (λ e. Unit {0}) store after k.entries (plain k.loose) k.loose
        (next_base store (standing_of based)) (header_of genesis n) (text m genesis []) k.holds refl begins.1
        (cover_more genesis n x) (none_asked k.loose)
        (subst (λ (b : BaseValue). EntriesCover genesis n x (Base b ∷ [])) (same_base w store (standing_of based)) own)
        (cover_entries m genesis n (disks store) x every))
