-- What a rebase leaves.
use Rattle.std.proofs.Common.{◌≡◌, ℕ, ◌+◌, ◌*◌, ◌<◌, ◌≤◌, ◌⊎◌, inl, inr, false, List, [], ◌∷◌, ◌++◌, length, take, refl}
use Rattle.std.proofs.Common.{sym, ◌∙◌, ap, subst, arith, length-append}
use Rattle.std.specs.List.{AllByRecursion, flat_map}
use Rattle.std.proofs.Math.Seq.{take-append-add}
use Rattle.std.proofs.lemmas.List.Concat.{flat_map-cons}
use Rattle.std.proofs.lemmas.List.{append-nil}
use Rattle.lk_types.specs.Ballots.{IsBallot}
use Rattle.lk_types.specs.Limits.{max_base_of}
use Rattle.lk_types.specs.Ranges.{IsCount, IsTotal}
use Rattle.lk_types.specs.Votes.{IsVote}
use Rattle.lk_types.specs.declared.command.Command.{Command}
use Rattle.lk_types.specs.declared.vote.Vote.{Vote as VoteValue}
use Rattle.lk_codec.specs.Fields.{two, four, eight, member, vote, pair}
use Rattle.lk_disk.specs.Disk.{Disk, other, contents, CutShort, MayLeave}
use Rattle.lk_disk.specs.declared.device.Side.{Side}
use Rattle.lk_disk.specs.declared.device.Side.TheVariants.{A, B}
use Rattle.lk_store_format.specs.Headers.{IsHeader}
use Rattle.lk_store_format.specs.Entries.{base, body, spelling, IsPair, IsStored}
use Rattle.lk_store_format.specs.Files.{IsFile}
use Rattle.lk_store_format.specs.Bases.{is_misplaced, generation}
use Rattle.lk_store_format.specs.Values.{HeaderValue, BaseValue}
use Rattle.lk_store_format.specs.declared.stored.Stored.{Stored}
use Rattle.lk_store_format.specs.declared.stored.Stored.TheVariants.{Base}
use Rattle.lk_store_format.proofs.EntryLaws.{len_command}
use Rattle.lk_store_format.proofs.Mixed.{mixed-two}
use Rattle.lk_store_format.proofs.Spelling.{spelled-append, all-left, all-right}
use Rattle.lk_store_format.proofs.Whole.{front, file_behind, front_file, file_spelled}
use Rattle.lk_log.specs.Images.{Image, IsLive}
use Rattle.lk_log.specs.StoreValue.{pick}
use Rattle.lk_log.specs.Stores.{IsOlder, HoldsOn, FitsBase, KeepsOrIs, IsWrittenOver, first_base}
use Rattle.lk_log.specs.Stores.{base_room}
use Rattle.lk_log.proofs.BeginLaws.{entry_or_nothing, members_long}
use Rattle.lk_log.proofs.ImageLaws.{misplaced-take, generation-append, generation-take, each_side, is_live}
use Rattle.lk_log.proofs.Room.{spelled_room, least_base}
use Rattle.lk_log.proofs.Settle.{all_synced, short_front}
use Rattle.lk_log.proofs.Steps.{OlderImage, grows_holds, keeps_at}

-- ---- a standing that may be written fits into a Base

votes_long : (vs : List VoteValue) → AllByRecursion IsVote vs → length (flat_map vote vs) ≤ 97 * length vs
unfolding four eight
votes_long [] fit = omega arith
votes_long (v ∷ vs) fit =
    omega (
      arith,
      ap length (flat_map-cons vote v vs),
      length-append (vote v) (flat_map vote vs),
      len_command v.command fit.0.2,
      votes_long vs fit.1,
    )

pairs_long : (ps : List (ℕ × Command)) → AllByRecursion IsPair ps → length (flat_map pair ps) ≤ 85 * length ps
unfolding eight
pairs_long [] fit = omega arith
pairs_long (p ∷ ps) fit =
    omega (
      arith,
      ap length (flat_map-cons pair p ps),
      length-append (pair p) (flat_map pair ps),
      len_command p.1 fit.0.1,
      pairs_long ps fit.1,
    )

pub base_fits : (b : BaseValue) → b.format ≡ 2 → IsCount b.generation → IsHeader b.header → IsBallot b.standing.promised
    → IsTotal b.standing.position → AllByRecursion IsVote b.standing.votes → AllByRecursion IsPair b.standing.pairs
    → FitsBase b.standing → IsStored (Base b)
unfolding base two four eight
base_fits b two number whose promised position votes pairs may = (
  (
    number,
    whose,
    (
      promised,
      position,
      may.some,
      omega (arith, may.room),
      may.few_votes,
      votes,
      may.votes_rise,
      may.few_pairs,
      pairs,
      may.pairs_rise,
    ),
    (omega (arith, two), omega (arith, two)),
  ),
  omega (
    arith,
    may.room,
    may.few_votes,
    may.few_pairs,
    members_long b.header.members,
    whose.4.1,
    votes_long b.standing.votes votes,
    pairs_long b.standing.pairs pairs,
    length-append (flat_map member b.header.members),
    length-append b.standing.snapshot,
    length-append (flat_map vote b.standing.votes),
  ),
)

-- and has at most so many bytes
pub base_long : (b : BaseValue) → IsHeader b.header → AllByRecursion IsVote b.standing.votes
    → AllByRecursion IsPair b.standing.pairs → 4 + length (body (Base b)) ≤ base_room b.standing
unfolding base two four eight
base_long b whose votes pairs = omega (
  arith,
  members_long b.header.members,
  whose.4.1,
  votes_long b.standing.votes votes,
  pairs_long b.standing.pairs pairs,
  length-append (flat_map member b.header.members),
  length-append b.standing.snapshot,
  length-append (flat_map vote b.standing.votes),
)

pub base_spelled : (b : BaseValue) → IsHeader b.header → AllByRecursion IsVote b.standing.votes
    → AllByRecursion IsPair b.standing.pairs → length (spelling (Base b)) ≤ base_room b.standing
base_spelled b whose votes pairs =
    spelled_room (Base b) (base_room b.standing) (base_long b whose votes pairs)

-- the Base of a new store, which has no votes and no pairs
pub first_short : (h : HeaderValue) (text : List ℕ) → IsHeader h → length text ≤ 49054
    → length (spelling (Base (first_base h text))) ≤ max_base_of h.alpha
first_short h text whose few =
    omega (arith, base_spelled (first_base h text) whose tt tt, few, least_base h.alpha)

-- ---- images of both files

-- an image of the live file has all that is synced and a beginning of the rest
record LiveImage (c : List ℕ) (ks ls : List Stored) : Type 0 where
  count : ℕ
  file : IsFile c (ks ++ take count ls) false
  base_first : is_misplaced (ks ++ take count ls) ≡ false
  same : generation (ks ++ take count ls) ≡ generation ks

live_image : (d o : Disk) (ks ls : List Stored) → HoldsOn d o ks ls → (c : List ℕ) → MayLeave d c → LiveImage c ks ls
live_image d o ks ls h c left =
    let at = (grows_holds d o ks ls h).front c left in
    let fits = all-right IsStored ks ls h.fit in
    let n = (front at.0 ls fits).count in
    record {
      count = n;
      file = subst (λ (x : List ℕ). IsFile x (ks ++ take n ls) false) (sym at.1)
          (file_behind ks ls at.0 fits (all-left IsStored ks ls h.fit) h.sound);
      base_first = subst (λ (l : List Stored). is_misplaced l ≡ false) (take-append-add ks ls n)
          (misplaced-take (length ks + n) (ks ++ ls) h.base_first);
      same = generation-append ks (take n ls) (omega (arith, h.older.less));
    }

-- a front of an older file is older
older_front : (d : Disk) (g : ℕ) → IsOlder d g → (c : List ℕ) (p : ℕ) → c ≡ take p (contents d) → OlderImage c g
older_front d g older c p is =
    let cut = front_file p (contents d) older.entries older.file.whole in
    record {
      entries = take cut.count older.entries;
      is_damaged = cut.is_damaged;
      file = subst (λ (l : List ℕ). IsFile l (take cut.count older.entries) cut.is_damaged) (sym is) cut.file;
      base_first = misplaced-take cut.count older.entries older.base_first;
      less = omega (arith, generation-take cut.count older.entries, older.less);
    }

nothing_older : (c : List ℕ) (g : ℕ) → IsFile c [] false → 0 < g → OlderImage c g
nothing_older c g f some = record { entries = []; is_damaged = false; file = f; base_first = refl; less = some }

live_older : (c : List ℕ) (ks ls : List Stored) (g : ℕ) → LiveImage c ks ls → generation ks < g → OlderImage c g
live_older c ks ls g i less =
    record {
      entries = ks ++ take i.count ls;
      is_damaged = false;
      file = i.file;
      base_first = i.base_first;
      less = omega (arith, i.same, less);
    }

-- what stands in a live file is older than the next Base
holds_older : (d o : Disk) (ks ls : List Stored) (g : ℕ) → HoldsOn d o ks ls → generation ks < g → IsOlder d g
holds_older d o ks ls g h less = record {
  entries = ks ++ ls;
  is_damaged = false;
  file = file_spelled (ks ++ ls) (contents d) h.fit h.sound
      ((λ i. h.synced i ++ h.unsynced i) ∙ sym (spelled-append ks ls));
  base_first = h.base_first;
  less = omega (arith, less, generation-append ks ls (omega (arith, h.older.less)));
}

-- beside an older file it stays live
old_stays : (image : Image) (live : Side) (ks ls : List Stored) (i : LiveImage (image live) ks ls)
    → OlderImage (image (other live)) (generation ks) → IsLive image (ks ++ take i.count ls)
old_stays image live ks ls i o =
    is_live image live (ks ++ take i.count ls) o.entries o.is_damaged i.file o.file i.base_first o.base_first
    (omega (arith, o.less, i.same))

-- beside an older file the new Base is live
new_goes : (image : Image) (live : Side) (b : BaseValue) → IsFile (image (other live)) (Base b ∷ []) false
    → OlderImage (image live) b.generation → IsLive image (Base b ∷ [])
new_goes image A b at o = is_live image B (Base b ∷ []) o.entries o.is_damaged at o.file refl o.base_first o.less
new_goes image B b at o = is_live image A (Base b ∷ []) o.entries o.is_damaged at o.file refl o.base_first o.less

-- a file that has a Base alone, all of it synced
base_alone : (d : Disk) (b : BaseValue) (c : List ℕ) → b.format ≡ 2 → IsStored (Base b)
    → d ≡ record { synced = spelling (Base b); unsynced = [] } → MayLeave d c → IsFile c (Base b ∷ []) false
base_alone d b c two fits is left =
    file_spelled (Base b ∷ []) c (fits, tt) (mixed-two (Base b ∷ []) [] two)
    (all_synced d (spelling (Base b)) c is left ∙ sym (append-nil (spelling (Base b))))

-- ---- the calls

module _ (old new : Side → Disk) (live : Side) (b : BaseValue) (ks ls : List Stored)
    (h : HoldsOn (old live) (old (other live)) ks ls) (less : generation ks < b.generation) (two : b.format ≡ 2)
    (fits : IsStored (Base b)) where
  -- the other file was written over, or in part
  pub over_keeps : IsWrittenOver (old (other live)) (spelling (Base b)) (new (other live))
      → new live ≡ old live → KeepsOrIs new ks ls b
  over_keeps over same image left =
      let i = live_image (old live) (old (other live)) ks ls h (image live)
      (subst (λ (d : Disk). MayLeave d (image live)) same (left live)) in
      let stays : OlderImage (image (other live)) (generation ks)
      → ((k : ℕ) × IsLive image (ks ++ take k ls)) ⊎ IsLive image (Base b ∷ []) =
      λ o. inl (i.count, old_stays image live ks ls i o) in
      elim (over (image (other live)) (left (other live))) [
        | inl was ↦ stays (older_front (old (other live)) (generation ks) h.older (image (other live)) was.0 was.1)
        | inr now ↦
            elim (entry_or_nothing (Base b) now.0 (image (other live)) fits (mixed-two (Base b ∷ []) [] two) now.1) [
              | inl none ↦ stays (nothing_older (image (other live)) (generation ks) none (omega (arith, h.older.less)))
              | inr there ↦ inr (new_goes image live b there (live_older (image live) ks ls b.generation i less))
            ]
      ]

  -- it has the Base, and of the live file a front is left
  pub front_keeps : new (other live) ≡ record { synced = spelling (Base b); unsynced = [] }
      → ((c : List ℕ) → MayLeave (new live) c → (p : ℕ) × (c ≡ take p (contents (old live)))) → KeepsOrIs new ks ls b
  front_keeps is front image left =
      let at = front (image live) (left live) in
      inr (new_goes image live b (base_alone (new (other live)) b (image (other live)) two fits is (left (other live)))
      (older_front (old live) b.generation
      (holds_older (old live) (old (other live)) ks ls b.generation h less) (image live) at.0 at.1))

-- the Base stands alone, and the file that was left is empty
pub files_switched : (d o : Disk) (b : BaseValue) → b.format ≡ 2 → IsStored (Base b)
    → d ≡ record { synced = spelling (Base b); unsynced = [] } → o ≡ record { synced = []; unsynced = [] }
    → HoldsOn d o (Base b ∷ []) []
files_switched d o b two fits is left = record {
  synced = ap (λ (e : Disk). e.synced) is ∙ sym (append-nil (spelling (Base b)));
  unsynced = ap (λ (e : Disk). e.unsynced) is;
  fit = (fits, tt);
  base_first = refl;
  sound = mixed-two (Base b ∷ []) [] two;
  older = record {
    entries = [];
    is_damaged = false;
    file = file_spelled [] (contents o) tt refl (ap contents left);
    base_first = refl;
    less = omega (arith, fits.0.0.0);
  };
}

-- what a cut to nothing leaves, made or failed, is a front
pub cut_front : (old new : Disk) → CutShort 0 old new → (c : List ℕ) → MayLeave new c
    → (p : ℕ) × (c ≡ take p (contents old))
cut_front old new short c left = (length c, short_front old new 0 short c left)

pub nothing_front : (old new : Disk) → new ≡ record { synced = []; unsynced = [] } → (c : List ℕ) → MayLeave new c
    → (p : ℕ) × (c ≡ take p (contents old))
nothing_front old new is c left = (0, all_synced new [] c is left)

-- the other side's other side
pub beside_live : (new old : Side → Disk) (live side : Side) → side ≡ other live
    → new (other side) ≡ old (other side) → new live ≡ old live
beside_live new old live side is same = at_live live (subst (λ (k : Side). new (other k) ≡ old (other k)) is same)
  where
    at_live : (k : Side) → new (other (other k)) ≡ old (other (other k)) → new k ≡ old k
    at_live A e = e
    at_live B e = e

-- what is held at the other side
pub held_at : (new : Side → Disk) (live side : Side) (es : List Stored) → side ≡ other live
    → HoldsOn (new (other live)) (new live) es [] → HoldsOn (new side) (new (other side)) es []
held_at new live side es is h = subst (λ (k : Side). HoldsOn (new k) (new (other k)) es []) (sym is) (at_live live h)
  where
    at_live : (k : Side) → HoldsOn (new (other k)) (new k) es [] → HoldsOn (new (other k)) (new (other (other k))) es []
    at_live A e = e
    at_live B e = e

-- the other side of it is what was left
pub left_at : (new : Side → Disk) (live side : Side) → side ≡ other live
    → new live ≡ record { synced = []; unsynced = [] } → new (other side) ≡ record { synced = []; unsynced = [] }
left_at new live side is e =
    subst (λ (k : Side). new (other k) ≡ record { synced = []; unsynced = [] }) (sym is) (at_live live e)
  where
    at_live : (k : Side) → new k ≡ record { synced = []; unsynced = [] }
        → new (other (other k)) ≡ record { synced = []; unsynced = [] }
    at_live A e' = e'
    at_live B e' = e'

-- ---- a store

-- its disks are those of its device
pub keeps_pick : (live : Side) (new : Side → Disk) (ks ls : List Stored) (b : BaseValue) → KeepsOrIs new ks ls b
    → KeepsOrIs (pick live (new live) (new (other live))) ks ls b
keeps_pick A new ks ls b keeps image left =
    keeps image (λ s. each_side (λ (t : Side). MayLeave (new t) (image t)) A (left A) (left B) s)
keeps_pick B new ks ls b keeps image left =
    keeps image (λ s. each_side (λ (t : Side). MayLeave (new t) (image t)) A (left A) (left B) s)

-- nothing has changed
pub keeps_still : (live : Side) (d o : Disk) (ks ls : List Stored) (b : BaseValue) → HoldsOn d o ks ls
    → KeepsOrIs (pick live d o) ks ls b
keeps_still live d o ks ls b h image left =
    let at = keeps_at live d o ks ls [] h image left in
    inl (at.0, subst (λ (l : List Stored). IsLive image (ks ++ take at.0 l)) (append-nil ls) at.1)
