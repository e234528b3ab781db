-- Each part of a probe and of a report reads what its spelling is.
use Rattle.std.proofs.Common.{◌≡◌, ℕ, suc, ◌+◌, ◌-◌, ◌^◌, ◌<◌, ◌≤◌, Bool, true, false, cond, ltb, leb, eqb, ◌&&◌, List}
use Rattle.std.proofs.Common.{[], ◌∷◌, ◌++◌, length, take}
use Rattle.std.proofs.Common.{drop, replicate, Option, Some, None, refl, ap, sym, subst, ◌∙◌, arith, inl, inr}
use Rattle.std.specs.Prelude.{IfSome}
use Rattle.std.specs.List.{AllByRecursion}
use Rattle.std.proofs.lemmas.Bool.{eqb-true, ltb-false, le-ltb}
use Rattle.std.proofs.lemmas.Bool.Decides.{nat_tests}
use Rattle.std.proofs.lemmas.List.{take_at, drop_at, take-append-drop, length-append, length-take}
use Rattle.lk_types.specs.Ranges.{IsNode, IsClient, IsTotal}
use Rattle.lk_types.specs.BallotValue.{BallotValue}
use Rattle.lk_types.specs.Ballots.{IsBallot}
use Rattle.lk_types.specs.Rosters.{IsMember, AreMembers}
use Rattle.lk_types.specs.declared.member.Member.{Member}
use Rattle.lk_codec.specs.Fields.{one, two, four, eight, ballot, members}
use Rattle.lk_codec.specs.Parser.{◌>>=◌, read_byte, both, tested, whole}
use Rattle.lk_codec.specs.FieldReading.{read_two, read_four, read_eight, read_node, read_total, read_any_ballot}
use Rattle.lk_codec.specs.FieldReading.{read_members}
use Rattle.lk_codec.proofs.Spellings.{IsBytes, IsBytes-drop, chosen, some_is, Took, Reads, fitting, both_reads}
use Rattle.lk_codec.proofs.Spellings.{made_reads, byte_reads, two_reads, four_reads, eight_reads, limited_reads}
use Rattle.lk_codec.proofs.Spellings.{tested_reads, node_reads, total_reads, mark_reads, members_reads, bind_ok}
use Rattle.lk_codec.proofs.Spellings.{whole_again, whole_takes, length-two, length-eight}
use Rattle.lk_auth.specs.Seals.{no_genesis}
use Rattle.lk_probe.specs.Grammar.{or_zero, node_in, genesis_in, flag, version, identity, leadership, progress, traffic}
use Rattle.lk_probe.specs.Grammar.{status, probe, report, IsByte, IsVersion, IsIdentity, IsLeadership, IsProgress}
use Rattle.lk_probe.specs.Grammar.{IsTraffic, IsStatus, IsProbe, IsReport, IsReach, heard_number, reach, reach_in}
use Rattle.lk_probe.specs.Grammar.{blank, state_digest, IsStateDigest}
use Rattle.lk_probe.specs.Reading.{or_none, is_with_node, origin_of, optional, read_maybe_node, read_maybe_client}
use Rattle.lk_probe.specs.Reading.{read_flag, read_digest, read_version, read_identity, read_leadership, read_progress}
use Rattle.lk_probe.specs.Reading.{read_traffic, read_status, read_probe_fields, read_report_fields, are_zeros}
use Rattle.lk_probe.specs.Reading.{heard_in, read_heard, read_reach, read_tail, read_blank, read_first}
use Rattle.lk_probe.specs.Reading.{read_state_digest}
use Rattle.lk_probe.specs.declared.neighbours.Origin.{Origin}
use Rattle.lk_probe.specs.declared.reach.Reach.{Reach}
use Rattle.lk_probe.specs.declared.state_digest.StateDigest.{StateDigest}
use Rattle.lk_probe.specs.declared.status.Version.{Version}
use Rattle.lk_probe.specs.declared.status.Identity.{Identity}
use Rattle.lk_probe.specs.declared.status.Leadership.{Leadership}
use Rattle.lk_probe.specs.declared.status.Progress.{Progress}
use Rattle.lk_probe.specs.declared.status.Traffic.{Traffic}
use Rattle.lk_probe.specs.declared.status.Status.{Status}
use Rattle.lk_probe.specs.declared.probe.Probe.{Probe}
use Rattle.lk_probe.specs.declared.probe.Report.{Report}
use Rattle.lk_probe.proofs.Codec.{remade_reads, zeros, are_zeros-replicate, both_are}

-- ---- numbers that may not be there

abbrev IsFrom : ℕ → ℕ → Type 0
IsFrom most n = (1 ≤ n) × (n ≤ most)

or_none-suc : (n : ℕ) → or_none (suc n) ≡ Some (suc n)
or_none-suc n = let more : eqb (suc n) 0 ≡ false = grind (arith, nat_tests) in rw more refl

none_or : (most n : ℕ) → n ≤ most → (or_zero (or_none n) ≡ n) × IfSome (or_none n) (IsFrom most)
none_or most ℕ.zero h = (refl, tt)
none_or most (suc n) h = rw (or_none-suc n) (refl, (omega arith, h))

zero_or : (most : ℕ) (o : Option ℕ) → IfSome o (IsFrom most) → (or_none (or_zero o) ≡ o) × (or_zero o ≤ most)
zero_or most None h = (refl, omega arith)
zero_or most (Some ℕ.zero) h = absurd (omega (arith, h))
zero_or most (Some (suc n)) h = (or_none-suc n, h.1)

optional_reads : (most limit : ℕ) → most < limit → (p : List ℕ → Option (ℕ × List ℕ)) (s : ℕ → List ℕ)
    → Reads p s (λ n. n < limit)
    → Reads (optional most p) (λ (o : Option ℕ). s (or_zero o)) (λ (o : Option ℕ). IfSome o (IsFrom most))
optional_reads most limit lt p s r =
    remade_reads or_none or_zero (tested (λ n. leb n most) p) s (λ n. n ≤ most)
    (λ (o : Option ℕ). IfSome o (IsFrom most)) (none_or most) (zero_or most) (limited_reads most limit lt p s r)

maybe_node_reads : Reads read_maybe_node (λ (o : Option ℕ). four (or_zero o)) (λ (o : Option ℕ). IfSome o IsNode)
unfolding read_maybe_node
maybe_node_reads = optional_reads 2147483648 (2 ^ 32) (omega arith) read_four four four_reads

maybe_client_reads : Reads read_maybe_client (λ (o : Option ℕ). two (or_zero o)) (λ (o : Option ℕ). IfSome o IsClient)
unfolding read_maybe_client
maybe_client_reads = optional_reads 256 (2 ^ 16) (omega arith) read_two two two_reads

-- ---- what holds or not

is_flag : (n : ℕ) → n ≤ 1 → (flag (eqb n 1) ≡ n) × Unit {0}
is_flag ℕ.zero h = (refl, tt)
is_flag (suc ℕ.zero) h = (refl, tt)
is_flag (suc (suc n)) h = absurd (omega (arith, h))

flag_is : (b : Bool) → Unit {0} → (eqb (flag b) 1 ≡ b) × (flag b ≤ 1)
flag_is true h = (refl, omega arith)
flag_is false h = (refl, omega arith)

flag_reads : Reads read_flag (λ (b : Bool). one (flag b)) (λ (b : Bool). Unit {0})
unfolding read_flag
flag_reads = remade_reads (λ n. eqb n 1) flag (tested (λ n. leb n 1) read_byte) one (λ n. n ≤ 1)
    (λ (b : Bool). Unit {0}) is_flag flag_is (limited_reads 1 256 (omega arith) read_byte one byte_reads)

-- ---- the digest

module _ (n : ℕ) where
  -- a list of so many bytes
  abbrev IsLong : List ℕ → Type 0
  IsLong d = length d ≡ n

  first_takes : (bytes digest rest : List ℕ) → IsBytes bytes → read_first n bytes ≡ Some (digest, rest)
      → Took (λ (d : List ℕ). d) IsLong bytes digest rest
  first_takes bytes digest rest h e =
      elim (chosen (ltb (length bytes) n) None (Some (take n bytes, drop n bytes)) (Some (digest, rest)) e) [
        | inl short ↦ let bad = short.1 in absurd cc
        | inr long ↦
            let enough : n ≤ length bytes = ltb-false _ _ long.0 in
            let cut : List ℕ × List ℕ = (take n bytes, drop n bytes) in
            subst (λ (z : List ℕ × List ℕ). Took (λ (d : List ℕ). d) IsLong bytes z.0 z.1)
            (some_is cut (digest, rest) long.1)
            (record {
              parts = sym (take-append-drop n bytes);
              rest_fits = IsBytes-drop n bytes h;
              fits = omega (arith, enough, length-take n bytes);
            })
      ]

  first_again : (digest rest : List ℕ) → length digest ≡ n → read_first n (digest ++ rest) ≡ Some (digest, rest)
  first_again digest rest len =
      let long : ltb (length (digest ++ rest)) n ≡ false = le-ltb _ _ (omega (arith, len, length-append digest rest)) in
      rw (long, take_at digest rest n len, drop_at digest rest n len) refl

  first_reads : Reads (read_first n) (λ (d : List ℕ). d) (λ (d : List ℕ). length d ≡ n)
  first_reads = record { takes = first_takes; again = first_again }

digest_reads : Reads read_digest (λ (d : List ℕ). d) (λ (d : List ℕ). length d ≡ 32)
unfolding read_digest
digest_reads = first_reads 32

-- ---- the parts

version_reads : Reads read_version version IsVersion
unfolding read_version
version_reads = fitting read_version version
    (λ (v : Version). IsByte v.major × (IsByte v.minor × IsByte v.patch)) IsVersion (λ v f. (f.0, f.1.0, f.1.1))
    (λ v f. (f.0, (f.1, f.2)))
    (made_reads (λ (v : ℕ × (ℕ × ℕ)). let x : Version = record { major = v.0; minor = v.1.0; patch = v.1.1 } in x)
    (λ (v : Version). (v.major, (v.minor, v.patch))) (λ x. refl) (λ y. refl) _ _ _
    (both_reads read_byte one IsByte _ _ _ byte_reads
    (both_reads read_byte one IsByte read_byte one IsByte byte_reads byte_reads)))

identity_reads : Reads read_identity identity IsIdentity
unfolding read_identity
identity_reads = fitting read_identity identity
    (λ (i : Identity). (length i.genesis ≡ 32) × (IsVersion i.program × (IsByte i.format × IsByte i.table))) IsIdentity
    (λ i f. (f.0, f.1.0, f.1.1.0, f.1.1.1)) (λ i f. (f.0, (f.1, (f.2, f.3))))
    (made_reads (λ (i : List ℕ × (Version × (ℕ × ℕ))). let x : Identity =
    record { genesis = i.0; program = i.1.0; format = i.1.1.0; table = i.1.1.1 } in x)
    (λ (i : Identity). (i.genesis, (i.program, (i.format, i.table)))) (λ x. refl) (λ y. refl) _ _ _
    (both_reads read_digest (λ (d : List ℕ). d) (λ (d : List ℕ). length d ≡ 32) _ _ _ digest_reads
    (both_reads read_version version IsVersion _ _ _ version_reads
    (both_reads read_byte one IsByte read_byte one IsByte byte_reads byte_reads))))

leadership_reads : Reads read_leadership leadership IsLeadership
unfolding read_leadership
leadership_reads = fitting read_leadership leadership
    (λ (l : Leadership). Unit {0} × (IfSome l.leader IsNode × ((l.silence < 2 ^ 64)
    × IsBallot l.promised))) IsLeadership
    (λ l f. (f.1.0, f.1.1.0, f.1.1.1)) (λ l f. (tt, (f.0, (f.1, f.2))))
    (made_reads (λ (l : Bool × (Option ℕ × (ℕ × BallotValue))). let x : Leadership =
    record { leads = l.0; leader = l.1.0; silence = l.1.1.0; promised = l.1.1.1 } in x)
    (λ (l : Leadership). (l.leads, (l.leader, (l.silence, l.promised)))) (λ x. refl) (λ y. refl) _ _ _
    (both_reads read_flag (λ (b : Bool). one (flag b)) (λ (b : Bool). Unit {0}) _ _ _ flag_reads
    (both_reads read_maybe_node (λ (o : Option ℕ). four (or_zero o))
    (λ (o : Option ℕ). IfSome o IsNode) _ _ _ maybe_node_reads
    (both_reads read_eight eight (λ n. n < 2 ^ 64) read_any_ballot ballot IsBallot eight_reads mark_reads))))

progress_reads : Reads read_progress progress IsProgress
unfolding read_progress
progress_reads = fitting read_progress progress
    (λ (p : Progress). IsTotal p.executed × (IsTotal p.snapshot × IsByte p.pending)) IsProgress
    (λ p f. (f.0, f.1.0, f.1.1)) (λ p f. (f.0, (f.1, f.2)))
    (made_reads (λ (p : ℕ × (ℕ × ℕ)). let x : Progress =
    record { executed = p.0; snapshot = p.1.0; pending = p.1.1 } in x)
    (λ (p : Progress). (p.executed, (p.snapshot, p.pending))) (λ x. refl) (λ y. refl) _ _ _
    (both_reads read_total eight IsTotal _ _ _ total_reads
    (both_reads read_total eight IsTotal read_byte one IsByte total_reads byte_reads)))

traffic_reads : Reads read_traffic traffic IsTraffic
unfolding read_traffic
traffic_reads = fitting read_traffic traffic
    (λ (t : Traffic). (t.waiting < 2 ^ 16) × ((t.unread < 2 ^ 64) × ((t.unsent < 2 ^ 64) × (t.ticks < 2 ^ 64))))
    IsTraffic (λ t f. (f.0, f.1.0, f.1.1.0, f.1.1.1)) (λ t f. (f.0, (f.1, (f.2, f.3))))
    (made_reads (λ (t : ℕ × (ℕ × (ℕ × ℕ))). let x : Traffic =
    record { waiting = t.0; unread = t.1.0; unsent = t.1.1.0; ticks = t.1.1.1 } in x)
    (λ (t : Traffic). (t.waiting, (t.unread, (t.unsent, t.ticks)))) (λ x. refl) (λ y. refl) _ _ _
    (both_reads read_two two (λ n. n < 2 ^ 16) _ _ _ two_reads
    (both_reads read_eight eight (λ n. n < 2 ^ 64) _ _ _ eight_reads
    (both_reads read_eight eight (λ n. n < 2 ^ 64) read_eight eight (λ n. n < 2 ^ 64) eight_reads eight_reads))))

abbrev AreAll : List Member → Type 0
AreAll ms = AreMembers ms × AllByRecursion IsMember ms

status_reads : Reads read_status status IsStatus
unfolding read_status
status_reads = fitting read_status status
    (λ (s : Status). IsIdentity s.identity
    × (IsLeadership s.leadership × (IsProgress s.progress × (IsTraffic s.traffic × AreAll s.members)))) IsStatus
    (λ s f. (f.0, f.1.0, f.1.1.0, f.1.1.1.0, f.1.1.1.1.0, f.1.1.1.1.1)) (λ s f. (f.0, (f.1, (f.2, (f.3, (f.4, f.5))))))
    (made_reads (λ (s : Identity × (Leadership × (Progress × (Traffic × List Member)))). let x : Status =
    record { identity = s.0; leadership = s.1.0; progress = s.1.1.0; traffic = s.1.1.1.0; members = s.1.1.1.1 } in x)
    (λ (s : Status). (s.identity, (s.leadership, (s.progress, (s.traffic, s.members))))) (λ x. refl) (λ y. refl) _ _ _
    (both_reads read_identity identity IsIdentity _ _ _ identity_reads
    (both_reads read_leadership leadership IsLeadership _ _ _ leadership_reads
    (both_reads read_progress progress IsProgress _ _ _ progress_reads
    (both_reads read_traffic traffic IsTraffic read_members members AreAll traffic_reads members_reads)))))

-- ---- the fields of both

-- the parts of a probe, as they follow one another
abbrev Asking : Type 0
Asking = ℕ × (Option ℕ × (Option ℕ × (ℕ × List ℕ)))

abbrev IsAsking : Asking → Type 0
IsAsking x = (x.0 < 2 ^ 64)
    × (IfSome x.1.0 IsNode × (IfSome x.1.1.0 IsClient × ((x.1.1.1.0 < 2 ^ 64) × (length x.1.1.1.1 ≡ 32))))

abbrev spelled : Asking → List ℕ
spelled x = eight x.0 ++ (four (or_zero x.1.0) ++ (two (or_zero x.1.1.0) ++ (eight x.1.1.1.0 ++ x.1.1.1.1)))

abbrev probe_by : Bool → Asking → Probe
probe_by asks x = record {
  cluster = x.0;
  origin = origin_of x.1.0 x.1.1.1.1;
  client = x.1.1.0;
  token = x.1.1.1.0;
  asks_reach = asks;
}

abbrev fields_of : Probe → Asking
fields_of p = (p.cluster, (node_in p.origin, (p.client, (p.token, genesis_in p.origin))))

-- a probe that asks for a reach, or one that does not
abbrev pub IsProbeThat : Bool → Probe → Type 0
IsProbeThat asks p = IsProbe p × (p.asks_reach ≡ asks)

-- a probe has its parts
has_fields : (asks : Bool) (cluster : ℕ) (node client : Option ℕ) (token : ℕ) (genesis : List ℕ)
    → IsAsking (cluster, (node, (client, (token, genesis)))) × (is_with_node node genesis ≡ true)
    → (fields_of (probe_by asks (cluster, (node, (client, (token, genesis)))))
    ≡ (cluster, (node, (client, (token, genesis)))))
    × IsProbeThat asks (probe_by asks (cluster, (node, (client, (token, genesis)))))
has_fields asks cluster None client token genesis f =
    let none : no_genesis ≡ genesis = sym (zeros genesis f.1 ∙ ap (λ (n : ℕ). replicate n 0) f.0.1.1.1.1) in (
      ap (λ (g : List ℕ). let x : Asking = (cluster, (None, (client, (token, g)))) in x) none,
      ((f.0.0, tt, f.0.1.1.0, f.0.1.1.1.0), refl),
    )
has_fields asks cluster (Some n) client token genesis f =
    (refl, ((f.0.0, (f.0.1.0, f.0.1.1.1.1), f.0.1.1.0, f.0.1.1.1.0), refl))

-- its parts make it
of_fields : (cluster : ℕ) (origin : Option Origin) (client : Option ℕ) (token : ℕ) (asks : Bool)
    → IsProbe (record { cluster = cluster; origin = origin; client = client; token = token; asks_reach = asks })
    → (origin_of (node_in origin) (genesis_in origin) ≡ origin)
    × (IsAsking (cluster, (node_in origin, (client, (token, genesis_in origin))))
    × (is_with_node (node_in origin) (genesis_in origin) ≡ true))
of_fields cluster None client token asks f = (refl, ((f.0, (tt, (f.2, (f.3, refl)))), are_zeros-replicate 32))
of_fields cluster (Some o) client token asks f = (refl, ((f.0, (f.1.0, (f.2, (f.3, f.1.1)))), refl))

fields_again : (asks : Bool) (p : Probe) → IsProbeThat asks p
    → (probe_by asks (fields_of p) ≡ p)
    × (IsAsking (fields_of p) × (is_with_node (node_in p.origin) (genesis_in p.origin) ≡ true))
fields_again asks p f =
    let is = of_fields p.cluster p.origin p.client p.token p.asks_reach f.0 in (
      ap (λ (a : Bool). probe_by a (fields_of p)) (sym f.1)
          ∙ ap (λ (o : Option Origin). let x : Probe =
          record { cluster = p.cluster; origin = o; client = p.client; token = p.token; asks_reach = p.asks_reach } in
          x) is.0,
      is.1,
    )

pub probe_fields_reads : (asks : Bool) → Reads (read_probe_fields asks) probe (IsProbeThat asks)
unfolding read_probe_fields
probe_fields_reads asks = remade_reads (probe_by asks) fields_of
    (tested (λ (x : Asking). is_with_node x.1.0 x.1.1.1.1)
    (both read_eight (both read_maybe_node (both read_maybe_client (both read_eight read_digest))))) spelled
    (λ (x : Asking). IsAsking x × (is_with_node x.1.0 x.1.1.1.1 ≡ true)) (IsProbeThat asks)
    (λ x f. has_fields asks x.0 x.1.0 x.1.1.0 x.1.1.1.0 x.1.1.1.1 f) (fields_again asks)
    (tested_reads (λ (x : Asking). is_with_node x.1.0 x.1.1.1.1) _ spelled IsAsking
    (both_reads read_eight eight (λ n. n < 2 ^ 64) _ _ _ eight_reads
    (both_reads read_maybe_node (λ (o : Option ℕ). four (or_zero o))
    (λ (o : Option ℕ). IfSome o IsNode) _ _ _ maybe_node_reads
    (both_reads read_maybe_client (λ (o : Option ℕ). two (or_zero o))
    (λ (o : Option ℕ). IfSome o IsClient) _ _ _ maybe_client_reads
    (both_reads read_eight eight (λ n. n < 2 ^ 64) read_digest (λ (d : List ℕ). d)
    (λ (d : List ℕ). length d ≡ 32) eight_reads digest_reads)))))

-- the parts of a report, as they follow one another
abbrev Telling : Type 0
Telling = ℕ × (ℕ × (Option ℕ × (ℕ × Status)))

abbrev IsTelling : Telling → Type 0
IsTelling x = (x.0 < 2 ^ 64)
    × (IsNode x.1.0 × (IfSome x.1.1.0 IsClient × ((x.1.1.1.0 < 2 ^ 64) × IsStatus x.1.1.1.1)))

abbrev told : Telling → List ℕ
told x = eight x.0 ++ (four x.1.0 ++ (two (or_zero x.1.1.0) ++ (eight x.1.1.1.0 ++ status x.1.1.1.1)))

abbrev report_by : Option Reach → Telling → Report
report_by reach x = record {
  cluster = x.0;
  node = x.1.0;
  client = x.1.1.0;
  token = x.1.1.1.0;
  status = x.1.1.1.1;
  reach = reach;
}

abbrev parts_of : Report → Telling
parts_of r = (r.cluster, (r.node, (r.client, (r.token, r.status))))

-- a report with that reach, or with none
abbrev pub IsReportWith : Option Reach → Report → Type 0
IsReportWith reach r = IsReport r × (r.reach ≡ reach)

pub report_fields_reads : (reach : Option Reach) → IfSome reach IsReach
    → Reads (read_report_fields reach) report (IsReportWith reach)
unfolding read_report_fields
report_fields_reads reach fits = remade_reads (report_by reach) parts_of
    (both read_eight (both read_node (both read_maybe_client (both read_eight read_status)))) told
    IsTelling (IsReportWith reach)
    (λ x f. (refl, ((f.0, f.1.0, f.1.1.0, f.1.1.1.0, f.1.1.1.1, fits), refl)))
    (λ r f. (
      ap (λ (o : Option Reach). report_by o (parts_of r)) (sym f.1),
      (f.0.0, (f.0.1, (f.0.2, (f.0.3, f.0.4)))),
    ))
    (both_reads read_eight eight (λ n. n < 2 ^ 64) _ _ _ eight_reads
    (both_reads read_node four IsNode _ _ _ node_reads
    (both_reads read_maybe_client (λ (o : Option ℕ). two (or_zero o))
    (λ (o : Option ℕ). IfSome o IsClient) _ _ _ maybe_client_reads
    (both_reads read_eight eight (λ n. n < 2 ^ 64) read_status status IsStatus eight_reads status_reads))))

-- ---- what form 2 has more

heard_in-suc : (n : ℕ) → heard_in (suc n) ≡ Some n
heard_in-suc n =
    let more : eqb (suc n) 0 ≡ false = grind (arith, nat_tests) in
    let less : suc n - 1 ≡ n = omega arith in
    rw (more, less) refl

number_of : (n : ℕ) → n ≤ 256 → (heard_number (heard_in n) ≡ n) × IfSome (heard_in n) IsByte
number_of ℕ.zero h = (refl, tt)
number_of (suc n) h = rw (heard_in-suc n) (omega arith, omega (arith, h))

of_number : (o : Option ℕ) → IfSome o IsByte → (heard_in (heard_number o) ≡ o) × (heard_number o ≤ 256)
of_number None h = (refl, omega arith)
of_number (Some n) h =
    let same : n + 1 ≡ suc n = omega arith in rw same (heard_in-suc n, omega (arith, h))

heard_reads : Reads read_heard (λ (o : Option ℕ). two (heard_number o)) (λ (o : Option ℕ). IfSome o IsByte)
unfolding read_heard
heard_reads = remade_reads heard_in heard_number (tested (λ n. leb n 256) read_two) two (λ n. n ≤ 256)
    (λ (o : Option ℕ). IfSome o IsByte) number_of of_number
    (limited_reads 256 (2 ^ 16) (omega arith) read_two two two_reads)

state_digest_reads : Reads read_state_digest state_digest IsStateDigest
unfolding read_state_digest
state_digest_reads = fitting read_state_digest state_digest
    (λ (d : StateDigest). IsTotal d.position × (length d.digest ≡ 16)) IsStateDigest (λ d f. (f.0, f.1))
    (λ d f. (f.0, f.1))
    (made_reads (λ (d : ℕ × List ℕ). let x : StateDigest = record { position = d.0; digest = d.1 } in x)
    (λ (d : StateDigest). (d.position, d.digest)) (λ x. refl) (λ y. refl) _ _ _
    (both_reads read_total eight IsTotal (read_first 16) (λ (d : List ℕ). d) (λ (d : List ℕ). length d ≡ 16)
    total_reads (first_reads 16)))

reach_reads : Reads read_reach reach IsReach
unfolding read_reach
reach_reads = fitting read_reach reach
    (λ (t : Reach). IfSome t.heard IsByte
    × (Unit {0} × (Unit {0} × ((t.watches < 2 ^ 16) × ((t.names < 2 ^ 16) × IsStateDigest t.state))))) IsReach
    (λ t f. (f.0, f.1.1.1.0, f.1.1.1.1.0, f.1.1.1.1.1)) (λ t f. (f.0, (tt, (tt, (f.1, (f.2, f.3))))))
    (made_reads (λ (t : Option ℕ × (Bool × (Bool × (ℕ × (ℕ × StateDigest))))). let x : Reach =
    record {
      heard = t.0;
      reads_bundles = t.1.0;
      sends_bundles = t.1.1.0;
      watches = t.1.1.1.0;
      names = t.1.1.1.1.0;
      state = t.1.1.1.1.1;
    } in x)
    (λ (t : Reach). (t.heard, (t.reads_bundles, (t.sends_bundles, (t.watches, (t.names, t.state))))))
    (λ x. refl) (λ y. refl) _ _ _
    (both_reads read_heard (λ (o : Option ℕ). two (heard_number o)) (λ (o : Option ℕ). IfSome o IsByte)
    _ _ _ heard_reads
    (both_reads read_flag (λ (b : Bool). one (flag b)) (λ (b : Bool). Unit {0}) _ _ _ flag_reads
    (both_reads read_flag (λ (b : Bool). one (flag b)) (λ (b : Bool). Unit {0}) _ _ _ flag_reads
    (both_reads read_two two (λ n. n < 2 ^ 16) _ _ _ two_reads
    (both_reads read_two two (λ n. n < 2 ^ 16) read_state_digest state_digest IsStateDigest two_reads
    state_digest_reads))))))

none : (bytes : List ℕ) → length bytes ≡ 0 → bytes ≡ []
none [] e = refl
none (b ∷ bytes) e = absurd (omega (arith, e))

-- nothing follows, or a reach
pub tail_takes : (bytes : List ℕ) (o : Option Reach) → IsBytes bytes → read_tail bytes ≡ Some o
    → IfSome o IsReach × (bytes ≡ reach_in o)
unfolding read_tail
tail_takes bytes o h e =
    elim (chosen (eqb (length bytes) 0) (Some None) (whole read_reach bytes >>= λ t. Some (Some t)) (Some o) e) [
      | inl short ↦ subst (λ (z : Option Reach). IfSome z IsReach × (bytes ≡ reach_in z)) (some_is None o short.1)
          (tt, none bytes (eqb-true _ _ short.0))
      | inr long ↦
          let a = bind_ok (whole read_reach bytes) (λ t. Some (Some t)) o long.1 in
          let t = whole_takes read_reach reach IsReach reach_reads bytes a.0 h a.1 in
          subst (λ (z : Option Reach). IfSome z IsReach × (bytes ≡ reach_in z)) (some_is (Some a.0) o a.2) (t.0, t.1)
    ]

pub length-reach : (t : Reach) → IsReach t → length (reach t) ≡ 32
length-reach t fits = simp (length-append, length-two, length-eight) (omega (arith, fits.3.1))

pub tail_again : (o : Option Reach) → IfSome o IsReach → read_tail (reach_in o) ≡ Some o
unfolding read_tail
tail_again None fits = refl
tail_again (Some t) fits =
    let long : eqb (length (reach t)) 0 ≡ false = rw (length-reach t fits) refl in
    rw (long, whole_again read_reach reach IsReach reach_reads t fits) refl

-- nothing follows, or zeros
pub blank_takes : (bytes : List ℕ) (asks : Bool) → read_blank bytes ≡ Some asks → bytes ≡ blank asks
unfolding read_blank
blank_takes bytes asks e =
    elim (chosen (eqb (length bytes) 0) (Some false)
    (cond (eqb (length bytes) 32 && are_zeros bytes) (Some true) None) (Some asks) e) [
      | inl short ↦ subst (λ (z : Bool). bytes ≡ blank z) (some_is false asks short.1)
          (none bytes (eqb-true _ _ short.0))
      | inr long ↦ elim (chosen (eqb (length bytes) 32 && are_zeros bytes) (Some true) None (Some asks) long.1) [
        | inr bad ↦ let no = bad.1 in absurd cc
        | inl good ↦
            let are = both_are (eqb (length bytes) 32) (are_zeros bytes) good.0 in
            subst (λ (z : Bool). bytes ≡ blank z) (some_is true asks good.1)
            (zeros bytes are.1 ∙ ap (λ (n : ℕ). replicate n 0) (eqb-true _ _ are.0))
      ]
    ]

pub blank_again : (asks : Bool) → read_blank (blank asks) ≡ Some asks
unfolding read_blank
blank_again false = refl
blank_again true = refl
