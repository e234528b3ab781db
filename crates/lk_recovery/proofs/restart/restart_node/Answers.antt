use Rattle.std.proofs.Common.{◌≡◌, List, ℕ, [], inl, inr, Err, ◌∙◌, ap, subst, sym, refl, arith}
use Rattle.lk_types.specs.Geneses.{IsGenesis}
use Rattle.lk_types.specs.Limits.{max_base_of}
use Rattle.lk_disk.specs.Meters.{CallsSucceed, start}
use Rattle.lk_node_interface.specs.Faults.{fault_number, RefusedAfter, IsNumberOfRevival}
use Rattle.lk_store_format.specs.Values.{HeaderValue}
use Rattle.lk_log.specs.Images.{seen}
use Rattle.lk_log.specs.StoreValue.{disks}
use Rattle.lk_log.specs.Stores.{Opens}
use Rattle.lk_state.specs.Meanings.{Meaning, KeepsTexts}
use Rattle.lk_node_interface.specs.declared.fault.ReplicaFault.{ReplicaFault}
use Rattle.lk_node.specs.Histories.{Genesis}
use Rattle.lk_node.specs.Leavings.{DisksFit, AllCover}
use Rattle.lk_node.specs.NodeValue.{NodeValue}
use Rattle.lk_recovery.specs.Revivals.{Restores}
use Rattle.lk_node.specs.BorneOut.{text}
use Rattle.lk_recovery.proofs.Revivals.{revived_goes, revived_remembers, whose_is, own_header, opened, opening_fits_as}
use Rattle.lk_recovery.proofs.Revivals.{opening_covers_as, given_fit, given_cover, given_room, restored_number}
use Rattle.lk_recovery.proofs.Revivals.{open_number, never_damaged, never_wrong, wrong_only, damaged_only}
use Rattle.lk_recovery.proofs.restart.restart_node.Goals as goal
use Rattle.lk_log.specs.Stores.{IsWrong, NarrowsOrIsNew}
use Rattle.lk_log.proofs.StoreLaws.{found_sound}
use Rattle.lk_recovery.proofs.Spared.{given_narrow, damage_only, open_not_failed, not_wrong, not_failed}

pub returns-in-Ok-restored-clause-fits : goal.returns-in-Ok-restored-clause-fits
returns-in-Ok-restored-clause-fits g c honest h n is lawful before =
    let m : Meaning = g.M.Machine.meaning in
    let keeps : KeepsTexts g.M.Machine.IsText m =
    record {
      first = g.met.M.Machine.first_is_text;
      next = g.met.M.Machine.next_is_text;
      answer = g.met.M.Machine.answer_is_answer;
    } in
    let same = whose_is c.genesis-2.result.now h.genesis c.args.header.now n c.genesis-2.ensures.cluster
    c.genesis-2.ensures.alpha c.genesis-2.ensures.members is in
    let fits = subst IsGenesis
    (whose_is c.genesis.result.now h.genesis c.args.header.now n c.genesis.ensures.cluster c.genesis.ensures.alpha
    c.genesis.ensures.members is) c.facts.ensures in
    let begins : c.as_slice.result.now ≡ text m h.genesis [] = c.as_slice.ensures ∙ c.in-Ok.ensures.text
    ∙ ap (λ (k : Genesis). text m k []) same in
    let old = g.D.LogDisk.disk c.args.device in
    let after : DisksFit m h n (disks c.in-Ok-reopen.opened.store) =
    opening_fits_as m h n c.args.header.now c.as_slice.result.now is begins old (disks c.in-Ok-reopen.opened.store)
    (c.in-Ok-reopen.ensures.stays honest) before in
    revived_goes m g.M.Machine.IsText keeps h n old c.in-Ok-reopen.opened.store c.in-Ok-reopen.opened.standing
    c.in-Ok-restored.node c.in-Ok-restored.notes.items lawful fits
    (opened m h.genesis n c.args.header.now c.as_slice.result.now is begins old c.in-Ok-reopen.opened.store
    c.in-Ok-reopen.opened.standing (c.in-Ok-reopen.ensures.ok honest))
    (subst (λ (w : HeaderValue). Restores m g.M.Machine.IsText w c.in-Ok-reopen.opened.standing c.in-Ok-restored.node
    c.in-Ok-restored.notes.items) is c.in-Ok-restored.ensures.restores) before
    (c.in-Ok-reopen.ensures.open.1 ∙ is) after

pub returns-in-Ok-restored-clause-covers : goal.returns-in-Ok-restored-clause-covers
returns-in-Ok-restored-clause-covers g c honest genesis n x is every =
    let m : Meaning = g.M.Machine.meaning in
    let same = whose_is c.genesis-2.result.now genesis c.args.header.now n c.genesis-2.ensures.cluster
    c.genesis-2.ensures.alpha c.genesis-2.ensures.members is in
    let begins : c.as_slice.result.now ≡ text m genesis [] = c.as_slice.ensures ∙ c.in-Ok.ensures.text
    ∙ ap (λ (k : Genesis). text m k []) same in
    opening_covers_as m genesis n c.args.header.now c.as_slice.result.now is begins (g.D.LogDisk.disk c.args.device)
    (disks c.in-Ok-reopen.opened.store) x (c.in-Ok-reopen.ensures.stays honest) every

pub returns-in-Ok-restored-clause-exact : goal.returns-in-Ok-restored-clause-exact
returns-in-Ok-restored-clause-exact g c honest =
    let m : Meaning = g.M.Machine.meaning in
    let own = own_header c.genesis-2.result.now c.args.header.now c.genesis-2.ensures.cluster c.genesis-2.ensures.alpha
    c.genesis-2.ensures.members in
    let begins : c.as_slice.result.now ≡ text m c.genesis-2.result.now [] = c.as_slice.ensures
    ∙ c.in-Ok.ensures.text in (
      record {
        genesis = c.genesis-2.result.now;
        whose_is = own;
        standing = c.in-Ok-reopen.opened.standing;
        opens = subst (λ (t : List ℕ). Opens
            (seen (g.D.LogDisk.disk c.args.device)) c.args.header.now t c.in-Ok-reopen.opened.store
            c.in-Ok-reopen.opened.standing) begins (c.in-Ok-reopen.ensures.ok honest);
        restores = c.in-Ok-restored.ensures.restores;
      },
      c.in-Ok-reopen.ensures.is_new honest,
    )

pub returns-in_default-clause-fits : goal.returns-in_default-clause-fits
returns-in_default-clause-fits g c honest h n is lawful before = (inr (inl refl), before)

pub returns-in-Ok-reopen-clause-fits : goal.returns-in-Ok-reopen-clause-fits
returns-in-Ok-reopen-clause-fits g c honest h n is lawful before =
    let m : Meaning = g.M.Machine.meaning in
    let keeps : KeepsTexts g.M.Machine.IsText m =
    record {
      first = g.met.M.Machine.first_is_text;
      next = g.met.M.Machine.next_is_text;
      answer = g.met.M.Machine.answer_is_answer;
    } in
    let same = whose_is c.genesis-2.result.now h.genesis c.args.header.now n c.genesis-2.ensures.cluster
    c.genesis-2.ensures.alpha c.genesis-2.ensures.members is in
    let fits = subst IsGenesis
    (whose_is c.genesis.result.now h.genesis c.args.header.now n c.genesis.ensures.cluster c.genesis.ensures.alpha
    c.genesis.ensures.members is) c.facts.ensures in
    let begins : c.as_slice.result.now ≡ text m h.genesis [] = c.as_slice.ensures ∙ c.in-Ok.ensures.text
    ∙ ap (λ (k : Genesis). text m k []) same in
    let old = g.D.LogDisk.disk c.args.device in
    let after : DisksFit m h n (disks c.in-Ok-reopen.opened.store) =
    opening_fits_as m h n c.args.header.now c.as_slice.result.now is begins old (disks c.in-Ok-reopen.opened.store)
    (c.in-Ok-reopen.ensures.stays honest) before in
    let number : IsNumberOfRevival (fault_number c.in-Err-restored.fault) =
    restored_number m g.M.Machine.IsText keeps h n old c.args.header.now c.in-Ok-reopen.opened.store
    c.in-Ok-reopen.opened.standing c.in-Err-restored.fault fits is
    (opened m h.genesis n c.args.header.now c.as_slice.result.now is begins old c.in-Ok-reopen.opened.store
    c.in-Ok-reopen.opened.standing (c.in-Ok-reopen.ensures.ok honest)) before c.in-Err-restored.ensures.only
    (λ damaged. c.in-Err-restored.ensures.damaged (ap (λ (f : ReplicaFault). Err f) damaged)) in (
      number,
      given_fit m h n c.in-Ok-reopen.opened.store
          (g.D.LogDisk.disk c.into_disks.result) c.into_disks.ensures.live_disk c.into_disks.ensures.other_disk after,
    )

pub returns-in-Ok-reopen-clause-covers : goal.returns-in-Ok-reopen-clause-covers
returns-in-Ok-reopen-clause-covers g c honest genesis n x is every =
    let m : Meaning = g.M.Machine.meaning in
    let same = whose_is c.genesis-2.result.now genesis c.args.header.now n c.genesis-2.ensures.cluster
    c.genesis-2.ensures.alpha c.genesis-2.ensures.members is in
    let begins : c.as_slice.result.now ≡ text m genesis [] = c.as_slice.ensures ∙ c.in-Ok.ensures.text
    ∙ ap (λ (k : Genesis). text m k []) same in
    let after : AllCover m genesis n (disks c.in-Ok-reopen.opened.store) x =
    opening_covers_as m genesis n c.args.header.now c.as_slice.result.now is begins (g.D.LogDisk.disk c.args.device)
    (disks c.in-Ok-reopen.opened.store) x (c.in-Ok-reopen.ensures.stays honest) every in
    given_cover m genesis n x c.in-Ok-reopen.opened.store
    (g.D.LogDisk.disk c.into_disks.result) c.into_disks.ensures.live_disk c.into_disks.ensures.other_disk after

pub returns-clause-fits : goal.returns-clause-fits
returns-clause-fits g c honest h n is lawful before =
    let m : Meaning = g.M.Machine.meaning in
    let same = whose_is c.genesis-2.result.now h.genesis c.args.header.now n c.genesis-2.ensures.cluster
    c.genesis-2.ensures.alpha c.genesis-2.ensures.members is in
    let begins : c.as_slice.result.now ≡ text m h.genesis [] = c.as_slice.ensures ∙ c.in-Ok.ensures.text
    ∙ ap (λ (k : Genesis). text m k []) same in
    let old = g.D.LogDisk.disk c.args.device in
    let e = c.in-Err.ensures in
    let number : IsNumberOfRevival (fault_number c.from.result) =
    subst IsNumberOfRevival (sym (ap fault_number c.from.ensures))
    (open_number c.in-Err.e.fault (λ damaged. never_damaged m h n old before (e.damaged honest damaged).0)
    (λ wrong. never_wrong m h n old before (subst (IsWrong (seen old)) is (e.wrong honest wrong).0))) in (
      number,
      opening_fits_as m h n c.args.header.now c.as_slice.result.now is begins old
          (g.D.LogDisk.disk c.in-Err.e.device) (e.stays honest) before,
    )

pub returns-clause-covers : goal.returns-clause-covers
returns-clause-covers g c honest genesis n x is every =
    let m : Meaning = g.M.Machine.meaning in
    let same = whose_is c.genesis-2.result.now genesis c.args.header.now n c.genesis-2.ensures.cluster
    c.genesis-2.ensures.alpha c.genesis-2.ensures.members is in
    let begins : c.as_slice.result.now ≡ text m genesis [] = c.as_slice.ensures ∙ c.in-Ok.ensures.text
    ∙ ap (λ (k : Genesis). text m k []) same in
    opening_covers_as m genesis n c.args.header.now c.as_slice.result.now is begins (g.D.LogDisk.disk c.args.device)
    (g.D.LogDisk.disk c.in-Err.e.device) x (c.in-Err.ensures.stays honest) every

pub returns-in-Ok-reopen-clause-room : goal.returns-in-Ok-reopen-clause-room
returns-in-Ok-reopen-clause-room g c honest =
    given_room (max_base_of c.args.header.now.alpha) (g.D.LogDisk.disk c.args.device) c.in-Ok-reopen.opened.store
    (g.D.LogDisk.disk c.into_disks.result) c.into_disks.ensures.live_disk c.into_disks.ensures.other_disk
    (c.in-Ok-reopen.ensures.room honest)

-- ---- which calls were made

pub returns-in_default-clause-metered : goal.returns-in_default-clause-metered
returns-in_default-clause-metered g c metered honest = (0, start)

pub returns-in-Ok-reopen-clause-metered : goal.returns-in-Ok-reopen-clause-metered
returns-in-Ok-reopen-clause-metered g c metered honest =
    let old = g.D.LogDisk.meter c.args.device in
    let new = g.D.LogDisk.meter c.into_disks.result in
    let o = c.in-Ok-reopen.ensures.metered metered honest in
    let left : (k : ℕ) × CallsSucceed old new k = (
      o.0,
      subst (λ z. CallsSucceed old z o.0)
          (sym c.into_disks.ensures.meter) o.2,
    ) in
    elim c.in-Err-restored.ensures.only [
      | inl e ↦ subst (λ f. RefusedAfter (fault_number f) old new) (sym e) left
      | inr e ↦ subst (λ f. RefusedAfter (fault_number f) old new) (sym e) left
    ]

-- ---- what a refusal leaves

pub returns-in_default-clause-stays_err : goal.returns-in_default-clause-stays_err
returns-in_default-clause-stays_err g c honest genesis is image left = inl (image, left, λ v es means. means)

pub returns-in-Ok-reopen-clause-stays_err : goal.returns-in-Ok-reopen-clause-stays_err
returns-in-Ok-reopen-clause-stays_err g c honest genesis is =
    let m : Meaning = g.M.Machine.meaning in
    let same = whose_is c.genesis-2.result.now genesis c.args.header.now c.args.header.now.node
    c.genesis-2.ensures.cluster c.genesis-2.ensures.alpha c.genesis-2.ensures.members is in
    let begins : c.as_slice.result.now ≡ text m genesis [] = c.as_slice.ensures ∙ c.in-Ok.ensures.text
    ∙ ap (λ (k : Genesis). text m k []) same in
    given_narrow (g.D.LogDisk.disk c.args.device) c.args.header.now (text m genesis []) c.in-Ok-reopen.opened.store
    (g.D.LogDisk.disk c.into_disks.result) c.into_disks.ensures.live_disk c.into_disks.ensures.other_disk
    (subst (λ (t : List ℕ). NarrowsOrIsNew (g.D.LogDisk.disk c.args.device)
    (disks c.in-Ok-reopen.opened.store) c.args.header.now t) begins (c.in-Ok-reopen.ensures.stays honest))

pub returns-clause-stays_err : goal.returns-clause-stays_err
returns-clause-stays_err g c honest genesis is =
    let m : Meaning = g.M.Machine.meaning in
    let same = whose_is c.genesis-2.result.now genesis c.args.header.now c.args.header.now.node
    c.genesis-2.ensures.cluster c.genesis-2.ensures.alpha c.genesis-2.ensures.members is in
    let begins : c.as_slice.result.now ≡ text m genesis [] = c.as_slice.ensures ∙ c.in-Ok.ensures.text
    ∙ ap (λ (k : Genesis). text m k []) same in
    subst (λ (t : List ℕ). NarrowsOrIsNew (g.D.LogDisk.disk c.args.device)
    (g.D.LogDisk.disk c.in-Err.e.device) c.args.header.now t) begins (c.in-Err.ensures.stays honest)

-- ---- what it remembers

pub returns-in-Ok-restored-clause-remembers : goal.returns-in-Ok-restored-clause-remembers
returns-in-Ok-restored-clause-remembers g c honest genesis n is =
    let m : Meaning = g.M.Machine.meaning in
    let same = whose_is c.genesis-2.result.now genesis c.args.header.now n c.genesis-2.ensures.cluster
    c.genesis-2.ensures.alpha c.genesis-2.ensures.members is in
    let begins : c.as_slice.result.now ≡ text m genesis [] = c.as_slice.ensures ∙ c.in-Ok.ensures.text
    ∙ ap (λ (k : Genesis). text m k []) same in
    let old = g.D.LogDisk.disk c.args.device in
    revived_remembers m g.M.Machine.IsText genesis n old c.in-Ok-reopen.opened.store c.in-Ok-reopen.opened.standing
    c.in-Ok-restored.node c.in-Ok-restored.notes.items
    (opened m genesis n c.args.header.now c.as_slice.result.now is begins old c.in-Ok-reopen.opened.store
    c.in-Ok-reopen.opened.standing (c.in-Ok-reopen.ensures.ok honest))
    (subst (λ (w : HeaderValue). Restores m g.M.Machine.IsText w c.in-Ok-reopen.opened.standing c.in-Ok-restored.node
    c.in-Ok-restored.notes.items) is c.in-Ok-restored.ensures.restores) (c.in-Ok-reopen.ensures.open.1 ∙ is)

-- ---- what is ready

pub returns-in-Ok-restored-clause-ready : goal.returns-in-Ok-restored-clause-ready
returns-in-Ok-restored-clause-ready g c = record {
  whose = c.in-Ok-reopen.ensures.open.1;
  store_alive = c.in-Ok-reopen.ensures.open.0;
  of_node = ap (λ (node : NodeValue). node.header) c.in-Ok-restored.ensures.restores.node_is;
  awake = ap (λ (node : NodeValue). node.halted) c.in-Ok-restored.ensures.restores.node_is;
  runs = c.in-Ok-restored.ensures.runs;
}

-- ---- why it is refused

pub returns-in_default-clause-refused : goal.returns-in_default-clause-refused
returns-in_default-clause-refused g c honest = record {
  damaged = λ nine. absurd (omega (arith, nine));
  wrong = λ ten. absurd (omega (arith, ten));
  last = λ eleven. absurd (omega (arith, eleven));
  last_revives = λ eleven. absurd (omega (arith, eleven));
  damaged_stays = λ damaged nine side. refl;
  wrong_stays = λ ten side. refl;
}

pub returns-in-Ok-reopen-clause-refused : goal.returns-in-Ok-reopen-clause-refused
returns-in-Ok-reopen-clause-refused g c honest =
    let m : Meaning = g.M.Machine.meaning in
    let begins : c.as_slice.result.now ≡ text m c.genesis-2.result.now [] = c.as_slice.ensures ∙ c.in-Ok.ensures.text in
    let k = c.in-Ok-reopen.ensures.ok honest in
    let o : Opens (seen (g.D.LogDisk.disk c.args.device)) c.args.header.now
    (text m c.genesis-2.result.now []) c.in-Ok-reopen.opened.store c.in-Ok-reopen.opened.standing =
    subst (λ (t : List ℕ). Opens
    (seen (g.D.LogDisk.disk c.args.device)) c.args.header.now t c.in-Ok-reopen.opened.store
    c.in-Ok-reopen.opened.standing) begins k in
    let f = c.in-Err-restored.fault in
    let only = c.in-Err-restored.ensures.only in
    record {
      damaged = λ nine. inr (record {
        genesis = c.genesis-2.result.now;
        whose_is = own_header c.genesis-2.result.now c.args.header.now c.genesis-2.ensures.cluster
            c.genesis-2.ensures.alpha c.genesis-2.ensures.members;
        standing = c.in-Ok-reopen.opened.standing;
        stands = record { entries = o.entries; found = o.found; header = o.header; stands = o.stands };
        none = c.in-Err-restored.ensures.damaged (ap (λ (f : ReplicaFault). Err f) (damaged_only f only nine));
      });
      wrong = λ ten. absurd (not_wrong f only ten);
      last = λ eleven. absurd (not_failed f only eleven);
      last_revives = λ eleven. absurd (not_failed f only eleven);
      damaged_stays = λ damaged nine. absurd
          (found_sound (seen (g.D.LogDisk.disk c.args.device)) c.args.header.now c.as_slice.result.now
          k.entries k.found damaged);
      wrong_stays = λ ten. absurd (not_wrong f only ten);
    }

pub returns-clause-refused : goal.returns-clause-refused
returns-clause-refused g c honest =
    let f = c.in-Err.e.fault in
    let e = c.in-Err.ensures in
    let is = sym (ap fault_number c.from.ensures) in
    record {
      damaged = λ nine. inl (e.damaged honest (damage_only f (is ∙ nine))).0;
      wrong = λ ten. (e.wrong honest (wrong_only f (is ∙ ten))).0;
      last = λ eleven. absurd (open_not_failed f (is ∙ eleven));
      last_revives = λ eleven. absurd (open_not_failed f (is ∙ eleven));
      damaged_stays = λ damaged nine. (e.damaged honest (damage_only f (is ∙ nine))).1;
      wrong_stays = λ ten. (e.wrong honest (wrong_only f (is ∙ ten))).1;
    }
