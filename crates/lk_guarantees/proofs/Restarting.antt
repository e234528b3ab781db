-- A restart reads what the one before it left: the same.
use Rattle.std.proofs.Common.{◌≡◌, ℕ, ◌⊎◌, List, [], ◌∷◌, ◌++◌, Contains, ap, sym, ◌∙◌, subst, inl, inr, append-nil}
use Rattle.std.proofs.Common.{arith}
use Rattle.std.proofs.lemmas.Bool.{cases_eq}
use Rattle.lk_disk.specs.Disk.{Disk}
use Rattle.lk_memory_disk.specs.Memory.{Memory, disk_of}
use Rattle.lk_disk.specs.declared.device.Side.TheVariants.{A, B}
use Rattle.lk_store_format.specs.Entries.{spelling_of_all}
use Rattle.lk_store_format.specs.Formats.{format}
use Rattle.lk_store_format.specs.Standings.{HasHeader, StandsFor}
use Rattle.lk_store_format.specs.Values.{HeaderValue, StandingValue}
use Rattle.lk_store_format.specs.declared.stored.Stored.{Stored}
use Rattle.lk_agreement_laws.proofs.Histories.{cons_cases}
use Rattle.lk_locks.specs.Meaning.{table_meaning}
use Rattle.lk_locks.specs.Packed.{IsTableText}
use Rattle.lk_log.specs.Images.{Image, MayLeaveBoth, IsLive, seen}
use Rattle.lk_log.specs.StoreValue.{StoreValue, disks}
use Rattle.lk_log.specs.Stores.{Found, HoldsEntries}
use Rattle.lk_log.proofs.StoreLaws.{found_live, found_sound, one_standing, synced_live}
use Rattle.lk_node.specs.BorneOut.{text}
use Rattle.lk_replica.specs.ReplicaValue.{ReplicaValue}
use Rattle.lk_recovery.specs.Revivals.{MayRevive, revived, notes_of, run_from}
use Rattle.lk_replica.specs.Revived.{Revives}
use Rattle.lk_state.specs.Packed.{Packs}
use Rattle.lk_state.specs.States.{WholeValue}
use Rattle.lk_node_interface.specs.declared.note.Note.{Note}
use Rattle.lk_guarantees.specs.Restarting.{ComesUp, StaysDown, IsLeftBy, Restarts, last_up, ReadsFormatTwo}
use Rattle.lk_guarantees.specs.Restarting.{IsIdempotent}

-- a file with these entries, all of them synced
abbrev pub synced_as : List Stored → Disk
synced_as entries = record { synced = spelling_of_all entries; unsynced = spelling_of_all [] }

pub is_synced : (d : Disk) (entries : List Stored) → d.synced ≡ spelling_of_all entries
    → d.unsynced ≡ spelling_of_all [] → d ≡ synced_as entries
is_synced d entries synced unsynced =
    let made : List ℕ → List ℕ → Disk = λ xs ys. record { synced = xs; unsynced = ys } in
    ap (λ (xs : List ℕ). made xs d.unsynced) synced ∙ ap (made (spelling_of_all entries)) unsynced

module _ (header : HeaderValue) where
  -- the replica has just come up: whatever a stop may leave of it has these entries, for which it stands
  pub record Stands (replica : ReplicaValue) (notes : List Note) : Type 0 where
    pub entries : List Stored
    pub live : (image : Image) → MayLeaveBoth (disks replica.store) image → IsLive image entries
    pub file_is : replica.store.live_disk ≡ synced_as entries
    pub of_node : HasHeader entries header
    pub is_format : format entries ≡ 2
    pub standing : StandingValue
    pub stands : StandsFor entries standing
    pub whole : WholeValue
    pub may : MayRevive IsTableText header standing whole
    pub only : (w : WholeValue) → Packs IsTableText w standing.snapshot → whole ≡ w
    pub node_is : replica.node ≡ revived table_meaning header standing whole
    pub notes_are : notes ≡ notes_of header.node standing.position (run_from standing.position standing.pairs)

  -- the entries that were found have format 2
  found_format : (image : Image) (zero : List ℕ) (entries : List Stored)
      → ((es : List Stored) → IsLive image es → format es ≡ 2) → Found image header zero entries → format entries ≡ 2
  found_format image zero entries today found =
      elim found [ inl live ↦ today entries live | inr begun ↦ ap format begun.1 ]

  -- by what was found, the replica stands so
  abbrev stands_by : (device : Memory) (replica : ReplicaValue) (notes : List Note)
      → (r : Revives table_meaning IsTableText (disk_of device) header replica notes)
      → format r.restarts.opens.entries ≡ 2 → Stands replica notes
  stands_by device replica notes r is_format =
      let o = r.restarts.opens in
      let same = r.renews.rests (o.format_is ∙ is_format) in
      let whose : StoreValue = record r.store { header = header } in
      let holds : HoldsEntries whose o.entries [] =
      record { on = o.holds; generation_is = o.generation_is; format_is = o.format_is; header_is = o.header } in
      record {
        entries = o.entries;
        live = subst (λ (s : StoreValue). (image : Image) → MayLeaveBoth (disks s) image → IsLive image o.entries)
            (sym same.1) (synced_live whose o.entries holds);
        file_is = ap (λ (s : StoreValue). s.live_disk) same.1
            ∙ is_synced r.store.live_disk o.entries o.holds.synced o.holds.unsynced;
        of_node = o.header;
        is_format = is_format;
        standing = r.restarts.standing;
        stands = o.stands;
        whole = r.restarts.restores.whole;
        may = r.restarts.restores.may;
        only = r.restarts.restores.only;
        node_is = same.0 ∙ r.restarts.restores.node_is;
        notes_are = r.restarts.restores.notes_are;
      }

  pub first_stands : (device : Memory) (replica : ReplicaValue) (notes : List Note) → ReadsFormatTwo device
      → ComesUp header device replica notes → Stands replica notes
  first_stands device replica notes today up =
      stands_by device replica notes up.0
      (found_format (seen (disk_of device))
      (text table_meaning up.0.restarts.genesis []) up.0.restarts.opens.entries today up.0.restarts.opens.found)

  -- ---- after a stop

  module _ (replica : ReplicaValue) (notes : List Note) (s : Stands replica notes) (left : Memory)
      (stopped : IsLeftBy replica left) where
    -- the bytes that are read are some that the stop may have left
    may_be_left : MayLeaveBoth (disks replica.store) (seen (disk_of left))
    may_be_left A = (stopped.0, ap (λ d. d.synced ++ d.unsynced) stopped.2 ∙ append-nil _)
    may_be_left B = (stopped.1, ap (λ d. d.synced ++ d.unsynced) stopped.3 ∙ append-nil _)

    still_live : IsLive (seen (disk_of left)) s.entries
    still_live = s.live (seen (disk_of left)) may_be_left

    module _ (again : ReplicaValue) (told : List Note) (up : ComesUp header left again told) where
      pub same_entries : up.0.restarts.opens.entries ≡ s.entries
      same_entries =
          found_live (seen (disk_of left)) header _ up.0.restarts.opens.entries s.entries still_live
          up.0.restarts.opens.found

      abbrev pub now : Stands again told
      now = stands_by left again told up.0 (ap format same_entries ∙ s.is_format)

      same_standing : now.standing ≡ s.standing
      same_standing = one_standing s.entries now.standing s.standing
          (subst (λ (es : List Stored). StandsFor es now.standing) same_entries now.stands) s.stands

      same_whole : s.whole ≡ now.whole
      same_whole = s.only now.whole
          (subst (λ (x : StandingValue). Packs IsTableText now.whole x.snapshot) same_standing now.may.unpacks.packs)

      pub same_node : again.node ≡ replica.node
      same_node = now.node_is ∙ ap (λ (x : StandingValue). revived table_meaning header x now.whole) same_standing
          ∙ ap (λ (w : WholeValue). revived table_meaning header s.standing w) (sym same_whole) ∙ sym s.node_is

      pub same_notes : told ≡ notes
      same_notes = now.notes_are
          ∙ ap (λ (x : StandingValue). notes_of header.node x.position (run_from x.position x.pairs)) same_standing
          ∙ sym s.notes_are

      pub same_file : again.store.live_disk ≡ replica.store.live_disk
      same_file = now.file_is ∙ ap (λ (es : List Stored). synced_as es) same_entries ∙ sym s.file_is

    -- the file that the stop leaves has format 2
    pub still_today : ReadsFormatTwo left
    still_today entries live =
        ap format (found_live (seen (disk_of left)) header [] entries s.entries still_live (inl live)) ∙ s.is_format

    -- a restart that is refused is so by the device or by memory
    module _ (number : ℕ) (down : StaysDown header left number) where
      not_damaged : number ≡ 9 → ⊥
      not_damaged e = elim (down.1.cause.damaged e) [
        | inl damaged ↦ found_sound (seen (disk_of left)) header [] s.entries (inl still_live) damaged
        | inr none ↦ (
            let same = found_live (seen (disk_of left)) header _ none.stands.entries s.entries
            still_live none.stands.found in
            let standing = one_standing s.entries none.standing s.standing
            (subst (λ (es : List Stored). StandsFor es none.standing) same none.stands.stands) s.stands in
            none.none s.whole (subst
            (λ (x : StandingValue). MayRevive IsTableText header x s.whole) (sym standing) s.may))
      ]

      not_wrong : number ≡ 10 → ⊥
      not_wrong e =
          let w = down.1.cause.wrong e in
          w.2 (subst (λ (es : List Stored). HasHeader es header)
          (sym (found_live (seen (disk_of left)) header [] w.0 s.entries still_live (inl w.1))) s.of_node)

      not_last : number ≡ 11 → ⊥
      not_last e =
          let w = down.1.cause.last e in
          let is : format w.0 ≡ 2 =
          ap format (found_live (seen (disk_of left)) header [] w.0 s.entries still_live (inl w.1)) ∙ s.is_format in
          omega (arith, is, w.2)

      by_device : (number ≡ 7) ⊎ (number ≡ 8)
      by_device = elim (cases_eq number 7) [
        | inl seven ↦ inl seven
        | inr not_seven ↦ elim (cases_eq number 8) [
          | inl eight ↦ inr eight
          | inr not_eight ↦ elim (cases_eq number 9) [
            | inl nine ↦ absurd (not_damaged nine)
            | inr not_nine ↦ elim (cases_eq number 10) [
              | inl ten ↦ absurd (not_wrong ten)
              | inr not_ten ↦ elim (cases_eq number 11) [
                | inl eleven ↦ absurd (not_last eleven)
                | inr not_eleven ↦ (let o = down.1.only in
                    absurd (omega (arith, o.0, o.1, not_seven, not_eight, not_nine, not_ten, not_eleven)))
              ]
            ]
          ]
        ]
      ]

  -- ---- however often

  abbrev IsSame : ReplicaValue → List Note → Memory × (ReplicaValue × List Note) → Type 0
  IsSame replica notes x = (x.1.0.node ≡ replica.node) × (x.1.1 ≡ notes)

  all_same : (replica : ReplicaValue) (notes : List Note) → Stands replica notes
      → (more : List (Memory × (ReplicaValue × List Note))) → Restarts header replica more
      → (x : Memory × (ReplicaValue × List Note)) → Contains more x → IsSame replica notes x
  all_same replica notes s [] all x c = absurd (omega (arith, c.1))
  all_same replica notes s (y ∷ more) all x c =
      let node = same_node replica notes s y.0 all.0 y.1.0 y.1.1 all.1 in
      let told = same_notes replica notes s y.0 all.0 y.1.0 y.1.1 all.1 in
      elim (cons_cases y more x c) [
        | inl here ↦ subst (IsSame replica notes) here (node, told)
        | inr later ↦ (
            let k = all_same y.1.0 y.1.1 (now replica notes s y.0 all.0 y.1.0 y.1.1 all.1) more all.2 x later in
            (k.0 ∙ node, k.1 ∙ told))
      ]

  all_come_up : (replica : ReplicaValue) (notes : List Note) → Stands replica notes
      → (more : List (Memory × (ReplicaValue × List Note))) → Restarts header replica more
      → (left : Memory) → IsLeftBy (last_up replica more) left → (number : ℕ) → StaysDown header left number
      → (number ≡ 7) ⊎ (number ≡ 8)
  all_come_up replica notes s [] all left stopped number down = by_device replica notes s left stopped number down
  all_come_up replica notes s (y ∷ more) all left stopped number down =
      all_come_up y.1.0 y.1.1 (now replica notes s y.0 all.0 y.1.0 y.1.1 all.1) more all.2 left stopped number down

pub idempotent : (header : HeaderValue) (device : Memory) (replica : ReplicaValue) (notes : List Note)
    → ReadsFormatTwo device → ComesUp header device replica notes → IsIdempotent header replica notes
idempotent header device replica notes today up =
    let s = first_stands header device replica notes today up in
    record { same = all_same header replica notes s; comes_up = all_come_up header replica notes s }
