-- What a stop leaves of a node in a world that meets the guarantee is neither damaged nor another's: a node may restart
-- from it.
use Rattle.std.proofs.Common.{◌≡◌, ℕ, ◌+◌, ◌*◌, ◌⊎◌, ◌≤◌, ◌==◌, Bool, true, false, List, [], ◌∷◌, length, Err}
use Rattle.std.proofs.Common.{Contains, refl, ap, sym, ◌∙◌, subst, inl, inr, arith}
use Rattle.std.specs.List.{AllByRecursion}
use Rattle.std.specs.Prelude.{MatchBool}
use Rattle.std.proofs.lemmas.Bool.{cases_lt, eqb-true}
use Rattle.lk_types.specs.Commands.{IsCommand}
use Rattle.lk_types.specs.Geneses.{IsGenesis}
use Rattle.lk_types.proofs.Values.{same_genesis}
use Rattle.lk_types.specs.declared.command.Command.{Command}
use Rattle.lk_types.specs.declared.genesis.Genesis.{Genesis}
use Rattle.lk_disk.specs.Meters.{Breaks, CallsSucceed}
use Rattle.lk_disk.specs.declared.device.Side.TheVariants.{A, B}
use Rattle.lk_disk.specs.declared.meter.Meter.{Meter}
use Rattle.lk_memory_disk.specs.Memory.{Memory, disk_of}
use Rattle.lk_store_format.specs.Standings.{HasHeader, StandsFor}
use Rattle.lk_store_format.specs.Values.{HeaderValue, StandingValue}
use Rattle.lk_store_format.specs.declared.stored.Stored.{Stored}
use Rattle.lk_store_format.specs.declared.stored.Stored.TheVariants.{Base}
use Rattle.lk_log.specs.Images.{Image, IsDamaged, seen}
use Rattle.lk_log.specs.Stores.{IsWrong, first_base}
use Rattle.lk_log.proofs.StoreLaws.{found_live, found_begun, found_sound, not_both, one_standing, seen_left}
use Rattle.lk_state.proofs.Wholes.{states_fit}
use Rattle.lk_members.specs.Windows.{roster_after}
use Rattle.lk_state.specs.States.{WholeValue, whole_after}
use Rattle.lk_locks.specs.Meaning.{table_meaning}
use Rattle.lk_locks.specs.Packed.{IsTableText}
use Rattle.lk_locks.proofs.Tables.{table_keeps_texts}
use Rattle.lk_agreement_laws.proofs.Histories.{chosen_short}
use Rattle.lk_agreement_laws.specs.Chosen.{Chosen}
use Rattle.lk_node.specs.BorneOut.{text}
use Rattle.lk_node.specs.Leavings.{header_of, StandsAs}
use Rattle.lk_node.proofs.Nodes.{window_is}
use Rattle.lk_recovery.specs.Revivals.{MayRevive, NoneRevives}
use Rattle.lk_replica.specs.ReplicaValue.{ReplicaValue}
use Rattle.lk_replica.specs.Revived.{RevivesTo}
use Rattle.lk_sim.specs.WorldStates.{WorldState}
use Rattle.lk_sim_nodes.specs.declared.sim_node.RunState.TheVariants.{Down}
use Rattle.lk_guarantees.specs.ComingBack.{IsExcused, IsExcusedOn}
use Rattle.lk_guarantees.specs.Disks.{Remembers, HasSnapshot, IsNear}
use Rattle.lk_guarantees.specs.Guarantee.{MeetsGuarantee}
use Rattle.lk_guarantees.proofs.Converging.{one_snapshot}
use Rattle.lk_guarantees.proofs.Executing.{is_snapshot}
use Rattle.lk_guarantees.proofs.Explaining.{all_fit}
use Rattle.lk_guarantees.proofs.Nearness.{reach_is}
use Rattle.lk_guarantees.proofs.Quorums.{chosen_is}

-- ---- by which number

number_cases : (number : ℕ) → 7 ≤ number → number ≤ 11
    → (number ≡ 7) ⊎ (number ≡ 8) ⊎ (number ≡ 9) ⊎ (number ≡ 10) ⊎ (number ≡ 11)
number_cases number low high = elim (cases_lt number 8) [
  | inl less ↦ inl (omega (arith, low, less))
  | inr more ↦ elim (cases_lt number 9) [
    | inl less ↦ inr (inl (omega (arith, more, less)))
    | inr most ↦ elim (cases_lt number 10) [
      | inl less ↦ inr (inr (inl (omega (arith, most, less))))
      | inr ten ↦ elim (cases_lt number 11) [
        | inl less ↦ inr (inr (inr (inl (omega (arith, ten, less)))))
        | inr last ↦ inr (inr (inr (inr (omega (arith, last, high)))))
      ]
    ]
  ]
]

failed_by : (is_device : Bool) (m n : Meter) → MatchBool is_device (Breaks m n) ((k : ℕ) × CallsSucceed m n k)
    → is_device ≡ true → Breaks m n
failed_by true m n by e = by
failed_by false m n by e = absurd (cc e)

passed_by : (is_device : Bool) (m n : Meter) → MatchBool is_device (Breaks m n) ((k : ℕ) × CallsSucceed m n k)
    → (is_device ≡ true → ⊥) → (k : ℕ) × CallsSucceed m n k
passed_by true m n by e = absurd (e refl)
passed_by false m n by e = by

seven_is : (number : ℕ) → (number == 7) ≡ true → number ≡ 7
seven_is number e = eqb-true number 7 e

-- ---- what stands on the disks

-- the state after a list has executed all of it
executed_is : (genesis : Genesis) (L : List Command)
    → (whole_after table_meaning genesis L).roster.executed ≡ length L
unfolding whole_after roster_after
executed_is genesis L = refl

module _ (world : WorldState ReplicaValue) (fits : IsGenesis world.genesis) (p : MeetsGuarantee world) (n : ℕ)
    (device : Memory) (down : Contains world.sim_nodes (record { number = n; run_state = Down device })) where
  abbrev genesis : Genesis
  genesis = world.genesis

  abbrev header : HeaderValue
  header = header_of genesis n

  abbrev image : Image
  image = seen (disk_of device)

  memory : (x : StandingValue) × Remembers genesis n image x × (HasSnapshot genesis world.sent x × IsNear genesis x)
  memory = p.snapshots (record { number = n; run_state = Down device }) down image
      (seen_left (disk_of device) A, seen_left (disk_of device) B)

  abbrev standing : StandingValue
  standing = memory.0

  abbrev found : Remembers genesis n image standing
  found = memory.1

  never_damaged : IsDamaged image → ⊥
  never_damaged damaged = elim found.live [
    | inl live ↦ found_sound image header [] found.entries (inl live) damaged
    | inr begun ↦ found_sound image header begun.1.0 found.entries (inr (begun.0, begun.1.2)) damaged
  ]

  never_wrong : IsWrong image header → ⊥
  never_wrong wrong = elim found.live [
    | inl live ↦ wrong.2 (subst (λ (es : List Stored). HasHeader es header)
        (found_live image header [] found.entries wrong.0 wrong.1 (inl live)) found.of_node)
    | inr begun ↦ not_both image wrong.0 wrong.1 begun.0
  ]

  -- whatever standing the files have, it is this one
  same_entries : (g : Genesis) → header ≡ header_of g n → (t : StandingValue)
      → (s : StandsAs header (text table_meaning g []) image t) → s.entries ≡ found.entries
  same_entries g is t s = elim found.live [
    | inl live ↦ found_live image header (text table_meaning g []) s.entries found.entries live s.found
    | inr begun ↦ (
        let same : g ≡ genesis = same_genesis g genesis (sym (ap (λ (h : HeaderValue). h.cluster) is))
        (sym (ap (λ (h : HeaderValue). h.alpha) is)) (sym (ap (λ (h : HeaderValue). h.members) is)) in
        let blank : text table_meaning g [] ≡ begun.1.0 =
        ap (λ (h : Genesis). text table_meaning h []) same
        ∙ one_snapshot genesis [] (text table_meaning genesis []) begun.1.0 (is_snapshot genesis [] tt) begun.1.1 in
        found_begun image header (text table_meaning g []) s.entries begun.0 s.found
        ∙ ap (λ (bytes : List ℕ). Base (first_base header bytes) ∷ []) blank ∙ sym begun.1.2)
  ]

  same_standing : (g : Genesis) → header ≡ header_of g n → (t : StandingValue)
      → StandsAs header (text table_meaning g []) image t → standing ≡ t
  same_standing g is t s =
      one_standing found.entries standing t found.stand_for
      (subst (λ (es : List Stored). StandsFor es t) (same_entries g is t s) s.stands)

  -- ---- a node may restart from it

  abbrev list : List Command
  list = memory.2.0.0

  chosen : Chosen genesis world.sent list
  chosen = chosen_is genesis world.sent list memory.2.0.1

  abbrev whole : WholeValue
  whole = whole_after table_meaning genesis list

  in_range : AllByRecursion IsCommand list
  in_range = all_fit genesis world.sent list chosen

  packs : standing.snapshot ≡ text table_meaning genesis list
  packs = one_snapshot genesis list standing.snapshot (text table_meaning genesis list) memory.2.0.3
      (is_snapshot genesis list in_range)

  revives : MayRevive IsTableText header standing whole
  revives = record {
    unpacks = record {
      packs = (
        states_fit IsTableText table_meaning table_keeps_texts genesis list fits in_range
            (chosen_short genesis world.sent list chosen),
        packs,
      );
      executed = executed_is genesis list ∙ memory.2.0.2;
      sets = window_is table_meaning genesis list whole refl;
    };
    votes = λ x c. subst (λ (e : ℕ). x.position ≤ e + 2 * genesis.alpha) (reach_is standing.position standing.pairs)
        (memory.2.1.votes x c);
    pairs = λ q c. subst (λ (e : ℕ). q.0 ≤ e + 2 * genesis.alpha) (reach_is standing.position standing.pairs)
        (memory.2.1.pairs q c);
  }

  some_revives : NoneRevives table_meaning IsTableText (disk_of device) header → ⊥
  some_revives k =
      k.none whole (subst (λ (t : StandingValue). MayRevive IsTableText header t whole)
      (same_standing k.genesis k.whose_is k.standing k.stands) revives)

  -- ---- so a failure is excused

  module _ (number : ℕ) (left : Memory)
      (r : RevivesTo table_meaning IsTableText device header (Err (number, left))) where
    excused : IsExcused (disk_of device) number
    excused = elim (number_cases number r.only.0 r.only.1) [
      | inl seven ↦ inl seven
      | inr (inl eight) ↦ inr (inl eight)
      | inr (inr (inl nine)) ↦ absurd (elim (r.cause.damaged nine)
          [ inl damaged ↦ never_damaged damaged | inr none ↦ some_revives none ])
      | inr (inr (inr (inl ten))) ↦ absurd (never_wrong (r.cause.wrong ten))
      | inr (inr (inr (inr eleven))) ↦ inr (inr (eleven, r.cause.last eleven))
    ]

    pub is_excused : IsExcusedOn device left number
    is_excused = record {
      excused = excused;
      failed = λ seven. failed_by (number == 7) device.meter left.meter r.calls
          (ap (λ (x : ℕ). x == 7) seven);
      succeeded = λ other. passed_by (number == 7) device.meter left.meter r.calls
          (λ e. other (seven_is number e));
    }
