-- A node takes parts of a snapshot: it keeps its acceptor, and gets no farther than the last position.
use Rattle.std.proofs.Common.{◌≡◌, ◌∙◌, inl, inr, ℕ, ◌≤◌, Bool, true, false, cond, List, [], ◌∷◌}
use Rattle.std.proofs.Common.{◌++◌, Some, None, Option, Contains, nat_lt, refl, ap, sym, subst, arith}
use Rattle.lk_types.specs.declared.command.Request.{Request as RequestValue}
use Rattle.lk_messages.specs.Values.{PartValue}
use Rattle.lk_messages.specs.declared.message.Content.TheVariants as content
use Rattle.lk_messages.specs.declared.message.NodeMessage.TheVariants as kinds
use Rattle.lk_agreement_laws.proofs.Histories.{contains_more, filter_from}
use Rattle.lk_state.specs.Meanings.{Meaning}
use Rattle.lk_state.specs.Runs.{run_answer}
use Rattle.lk_state.specs.States.{WholeValue}
use Rattle.lk_state.specs.declared.session.Session.{Session}
use Rattle.lk_acceptor.specs.AcceptorValue.{AcceptorValue}
use Rattle.lk_leader.specs.Waits.{left_by}
use Rattle.lk_learner.specs.Gathering.{first_gathered, goes_on, heard, starts_text, with_next, with_next_any}
use Rattle.lk_learner.specs.Installing.{Installs, MayInstall, hearing, installed, with_gathered}
use Rattle.lk_learner.specs.Learners.{GatheredValue, LearnerValue, Pair, executed}
use Rattle.lk_node_interface.specs.KeptReplies.{session_by}
use Rattle.lk_node_interface.specs.Envelopes.{EnvelopeValue}
use Rattle.lk_node_interface.specs.Outboxes.{OutboxValue}
use Rattle.lk_node.specs.Executing.{EndsWaitIfAny, NothingToRun, Runs, goes_on as runs_on, is_outside, stays}
use Rattle.lk_node.specs.Executing.{without_term_if_outside}
use Rattle.lk_node.specs.Installing.{EndsFirstWaits, GathersPart, HandlesPart, InstallsGathered, none_ended, one_ended}
use Rattle.lk_node.specs.NodeValue.{NodeValue}
use Rattle.lk_node.specs.Yielding.{without_term}
use Rattle.lk_progress.specs.Gathering.{parts_from}
use Rattle.lk_progress.specs.Hearing.{Takes, TakesEach}
use Rattle.lk_rebases.proofs.Rebases.{Handled, HasSame, handled, proposed_same}
use Rattle.lk_leftovers.proofs.Offering.{Reaches, runs_reach, same_reaches}
use Rattle.lk_world_leftovers.proofs.Feeding.{idle_proposes}
use Rattle.lk_world_leftovers.proofs.Taking.{runs_acceptor}

-- ---- what is gathered

-- what the node gathers of a snapshot is at most at the last position
abbrev pub GathersUpTo : NodeValue → ℕ → Type 0
GathersUpTo node last = (g : GatheredValue) → node.learner.gathered ≡ Some g → g.position ≤ last

next_position : (g : GatheredValue) (p : PartValue) → (with_next g p).position ≡ g.position
next_position g p = by_test (goes_on g p)
  where
    by_test : (t : Bool)
        → (cond t (record { position = g.position; total = g.total; bytes = g.bytes ++ p.bytes }) g).position
        ≡ g.position
    by_test true = refl
    by_test false = refl

heard_low : (e last : ℕ) (o : Option GatheredValue) (p : PartValue) → p.position ≤ last
    → ((g : GatheredValue) → o ≡ Some g → g.position ≤ last)
    → (g : GatheredValue) → heard e o p ≡ Some g → g.position ≤ last
heard_low e last o p low before g is = by_tests (nat_lt e p.position) (starts_text o p) is
  where
    next_low : (q : Option GatheredValue) → ((h : GatheredValue) → q ≡ Some h → h.position ≤ last)
        → with_next_any q p ≡ Some g → g.position ≤ last
    next_low None known at = absurd (cc at)
    next_low (Some h) known at =
        let one : with_next h p ≡ g = cc at in
        let same : (with_next h p).position ≡ g.position = ap (λ (y : GatheredValue). y.position) one in
        let kept = known h refl in
        omega (arith, same, next_position h p, kept)

    by_tests : (t u : Bool) → cond t (cond u (Some (first_gathered p)) (with_next_any o p)) o ≡ Some g
        → g.position ≤ last
    by_tests false u at = before g at
    by_tests true true at =
        let one : first_gathered p ≡ g = cc at in
        let same : p.position ≡ g.position = ap (λ (y : GatheredValue). y.position) one in
        omega (arith, same, low)
    by_tests true false at = next_low o before at

-- ---- what it installs

none_left : (client number : ℕ) (rs : List RequestValue) → rs ≡ [] → left_by client number rs ≡ []
none_left client number [] is = refl
none_left client number (r ∷ rs) is = absurd (cc is)

-- the node has no term, and nothing waits
pub record IsIdle (node : NodeValue) : Type 0 where
  pub term : node.leader.term ≡ None
  pub waiting : node.leader.waiting ≡ []

-- the other node is the same but for its leader, and is idle if this one is
record AlikeButLeader (old new : NodeValue) : Type 0 where
  acceptor : new.acceptor ≡ old.acceptor
  learner : new.learner ≡ old.learner
  idle : IsIdle old → IsIdle new

waits_alike : (ss : List Session) (old : NodeValue) (before : OutboxValue) (k : ℕ) (new : NodeValue)
    (after : OutboxValue) → EndsFirstWaits ss old before k new after → AlikeButLeader old new
waits_alike ss old before _ _ _ none_ended = record { acceptor = refl; learner = refl; idle = λ i. i }
waits_alike ss old before _ new after (one_ended {mid = mid} s so_far at ends) =
    let earlier : AlikeButLeader old mid = waits_alike ss old before _ mid _ so_far in
    record {
      acceptor = ap (λ (n : NodeValue). n.acceptor) ends.becomes ∙ earlier.acceptor;
      learner = ap (λ (n : NodeValue). n.learner) ends.becomes ∙ earlier.learner;
      idle = λ i.
          let j : IsIdle mid = earlier.idle i in
          subst IsIdle (sym ends.becomes)
          (record { term = j.term; waiting = none_left s.client s.number mid.leader.waiting j.waiting });
    }

inside_alike : (node : NodeValue) → AlikeButLeader node (without_term_if_outside node)
inside_alike node = by_test (is_outside node)
  where
    by_test : (t : Bool) → AlikeButLeader node (cond t (without_term node) node)
    by_test true = record { acceptor = refl; learner = refl; idle = λ i. record { term = refl; waiting = refl } }
    by_test false = record { acceptor = refl; learner = refl; idle = λ i. i }

-- ---- the runs after that

waited_idle : (o : Option Session) (old new : NodeValue) (before after : OutboxValue)
    → EndsWaitIfAny o old before new after → IsIdle old → IsIdle new
waited_idle None old new before after ends i = subst IsIdle (sym ends.0) i
waited_idle (Some s) old new before after ends i = subst IsIdle (sym ends.becomes)
    (record { term = i.term; waiting = none_left s.client s.number old.leader.waiting i.waiting })

waited_gathered : (o : Option Session) (old new : NodeValue) (before after : OutboxValue)
    → EndsWaitIfAny o old before new after → new.learner ≡ old.learner
waited_gathered None old new before after ends = ap (λ (n : NodeValue). n.learner) ends.0
waited_gathered (Some s) old new before after ends = ap (λ (n : NodeValue). n.learner) ends.becomes

runs_idle : (m : Meaning) (old : NodeValue) (before : OutboxValue) (new : NodeValue) (after : OutboxValue)
    → Runs m old before new after → IsIdle old → IsIdle new
runs_idle m old before _ _ stays i = i
runs_idle m old before new after (runs_on {mid = mid} {between = between} so_far x) i =
    let earlier : IsIdle mid = runs_idle m old before mid between so_far i in
    subst IsIdle (sym x.becomes) ((inside_alike x.mid).idle
    (waited_idle (session_by x.command (run_answer m x.command mid.learner.whole)) _ x.mid _ after x.ends_wait
    (record { term = earlier.term; waiting = earlier.waiting })))

runs_gathered : (m : Meaning) (old : NodeValue) (before : OutboxValue) (new : NodeValue) (after : OutboxValue)
    → Runs m old before new after → new.learner.gathered ≡ old.learner.gathered
runs_gathered m old before _ _ stays = refl
runs_gathered m old before new after (runs_on {mid = mid} {between = between} so_far x) =
    ap (λ (n : NodeValue). n.learner.gathered) x.becomes
    ∙ ap (λ (l : LearnerValue). l.gathered) (inside_alike x.mid).learner
    ∙ ap (λ (l : LearnerValue). l.gathered)
    (waited_gathered (session_by x.command (run_answer m x.command mid.learner.whole)) _ x.mid _ after x.ends_wait)
    ∙ runs_gathered m old before mid between so_far

-- ---- one part

-- the node has this acceptor, knows the members so far ahead, and neither gets nor gathers farther than the last
-- position
pub record Grows (a : AcceptorValue) (width last : ℕ) (node : NodeValue) : Type 0 where
  pub acceptor : node.acceptor ≡ a
  pub reaches : Reaches width last node
  pub gathers : GathersUpTo node last

-- nothing is left to execute, and it is idle
pub record IsResting (node : NodeValue) : Type 0 where
  pub idle : IsIdle node
  pub known : NothingToRun node

module _ (a : AcceptorValue) (width last : ℕ) (some : 1 ≤ width) where
  -- the learner after the part
  hearing_reaches : (p : PartValue) (node : NodeValue) → Reaches width last node
      → Reaches width last (record node { learner = hearing p node.learner })
  hearing_reaches p node r = record { width_is = r.width_is; within = r.within; pairs = r.pairs }

  installed_reaches : (IsText : List ℕ → Type 0) (p : PartValue) (node : NodeValue) (w : WholeValue)
      → p.position ≤ last → MayInstall IsText (hearing p node.learner) w → Grows a width last node
      → Reaches width last (record node { learner = installed w (hearing p node.learner) })
  installed_reaches IsText p node w low may k = record {
    width_is = may.unpacks.sets ∙ k.reaches.width_is;
    within =
        let at = heard_low (executed node.learner) last node.learner.gathered p low k.gathers may.gathered
        may.has.gathered in
        omega (arith, at, may.unpacks.executed);
    pairs = λ q c. k.reaches.pairs q
        (filter_from (λ (y : Pair). nat_lt w.roster.executed y.0) node.learner.pairs q c);
  }

  module _ (m : Meaning) (IsText : List ℕ → Type 0) (p : PartValue) (low : p.position ≤ last) (old new : NodeValue)
      (out : OutboxValue) (k : Grows a width last old) where
    -- it is installed
    module _ (adopted : NodeValue) (gathers : GathersPart IsText true p old adopted)
        (installs : InstallsGathered m adopted new out) where
      by_install : (w : WholeValue) → MayInstall IsText (hearing p old.learner) w
          → gathers.0 ≡ installed w (hearing p old.learner)
          → Grows a width last new × (IsResting old → IsResting new)
      by_install w may is =
          let waits : AlikeButLeader adopted installs.told =
          waits_alike adopted.learner.whole.sessions adopted _ _ installs.told installs.said installs.ends_wait in
          let inside : AlikeButLeader installs.told (without_term_if_outside installs.told) =
          inside_alike installs.told in
          let learner : (without_term_if_outside installs.told).learner ≡ installed w (hearing p old.learner) =
          inside.learner ∙ waits.learner ∙ ap (λ (n : NodeValue). n.learner) gathers.2 ∙ is in
          let reaches : Reaches width last (without_term_if_outside installs.told) =
          same_reaches width last some (record old { learner = installed w (hearing p old.learner) })
          (without_term_if_outside installs.told) learner (installed_reaches IsText p old w low may k) in
          let gathered : new.learner.gathered ≡ None =
          runs_gathered m (without_term_if_outside installs.told) installs.said new out installs.runs.0
          ∙ ap (λ (l : LearnerValue). l.gathered) learner in (
            record {
              acceptor = runs_acceptor m (without_term_if_outside installs.told) installs.said new out installs.runs.0
                  ∙ inside.acceptor ∙ waits.acceptor ∙ ap (λ (n : NodeValue). n.acceptor) gathers.2 ∙ k.acceptor;
              reaches = runs_reach width last some m (without_term_if_outside installs.told) installs.said new out
                  installs.runs.0 reaches;
              gathers = λ g at. absurd (cc (sym gathered ∙ at));
            },
            λ rests. record {
              idle = runs_idle m (without_term_if_outside installs.told) installs.said new out installs.runs.0
                  (inside.idle (waits.idle (subst IsIdle (sym gathers.2)
                  (record { term = rests.idle.term; waiting = rests.idle.waiting }))));
              known = installs.runs.1;
            },
          )

      when_installed : Grows a width last new × (IsResting old → IsResting new)
      when_installed = by_case gathers.1
        where
          by_case : Installs IsText true (hearing p old.learner) gathers.0
              → Grows a width last new × (IsResting old → IsResting new)
          by_case (inl went) = by_install went.1.0 went.1.1 went.1.2
          by_case (inr (inl thrown)) = absurd (cc thrown.0)
          by_case (inr (inr kept)) = absurd (cc kept.0)

    -- it is not
    when_gathered : GathersPart IsText false p old new → Grows a width last new × (IsResting old → IsResting new)
    when_gathered gathers = by_case gathers.1
      where
        left_with : (o : Option GatheredValue) → ((g : GatheredValue) → o ≡ Some g → g.position ≤ last)
            → new ≡ record old { learner = with_gathered o old.learner }
            → Grows a width last new × (IsResting old → IsResting new)
        left_with o bound is = (
          subst (Grows a width last) (sym is) (record {
            acceptor = k.acceptor;
            reaches = record { width_is = k.reaches.width_is; within = k.reaches.within; pairs = k.reaches.pairs };
            gathers = bound;
          }),
          λ rests. subst IsResting (sym is) (record {
            idle = record { term = rests.idle.term; waiting = rests.idle.waiting };
            known = rests.known;
          }),
        )

        by_case : Installs IsText false (hearing p old.learner) gathers.0
            → Grows a width last new × (IsResting old → IsResting new)
        by_case (inl went) = absurd (cc went.0)
        by_case (inr (inl thrown)) = left_with None (λ g at. absurd (cc at))
            (gathers.2 ∙ ap (λ (l : LearnerValue). record old { learner = l }) thrown.3)
        by_case (inr (inr kept)) = left_with (heard (executed old.learner) old.learner.gathered p)
            (heard_low (executed old.learner) last old.learner.gathered p low k.gathers)
            (gathers.2 ∙ ap (λ (l : LearnerValue). record old { learner = l }) kept.2)

    handled_part : HandlesPart m IsText old p new out → Grows a width last new × (IsResting old → IsResting new)
    handled_part (inl h) = when_installed h.0 h.1 h.2
    handled_part (inr h) = when_gathered h.0

  -- ---- all of them

  -- without a term nothing is proposed
  one_part : (m : Meaning) (IsText : List ℕ → Type 0) (p : PartValue) (from : ℕ) (old new : NodeValue)
      (out : OutboxValue) → p.position ≤ last → Takes m IsText old (content.Node from (kinds.Part p)) new out
      → Grows a width last old → Grows a width last new × (IsResting old → IsResting new)
  one_part m IsText p from old new out low takes k =
      by_handled (handled m IsText old (content.Node from (kinds.Part p)) new out takes)
    where
      by_handled : Handled m IsText old (content.Node from (kinds.Part p)) new out
          → Grows a width last new × (IsResting old → IsResting new)
      by_handled h =
          let mid = handled_part m IsText p low old h.mid h.first k h.handles in
          let same : HasSame h.mid new = proposed_same h.proposes.0 h.mid new h.first out h.proposes.1 in (
            record {
              acceptor = same.acceptor ∙ mid.0.acceptor;
              reaches = same_reaches width last some h.mid new same.learner mid.0.reaches;
              gathers = λ g at. mid.0.gathers g (sym (ap (λ (l : LearnerValue). l.gathered) same.learner) ∙ at);
            },
            λ rests.
                let r : IsResting h.mid = mid.1 rests in
                subst IsResting (sym (idle_proposes h.proposes.0 h.mid new h.first out h.proposes.1 r.idle.term)) r,
          )

  pub all_parts : (m : Meaning) (IsText : List ℕ → Type 0) (from : ℕ) (parts : List PartValue) (old new : NodeValue)
      (envelopes : List EnvelopeValue) → ((p : PartValue) → Contains parts p → p.position ≤ last)
      → TakesEach m IsText (parts_from from parts) old new envelopes → Grows a width last old
      → Grows a width last new × (IsResting old → IsResting new)
  all_parts m IsText from [] old new envelopes low takes k = (
    subst (Grows a width last) (sym takes.0) k,
    λ rests. subst IsResting (sym takes.0) rests,
  )
  all_parts m IsText from (p ∷ parts) old new envelopes low takes k =
      let one = one_part m IsText p from old takes.0 takes.1 (low p (0, omega arith, refl)) takes.3 k in
      let rest = all_parts m IsText from parts takes.0 new takes.2 (λ q c. low q (contains_more p parts q c)) takes.4
      one.0 in
      (rest.0, λ rests. rest.1 (one.1 rests))
