-- A run that sends one request alone keeps the rule of its client.
use Rattle.std.proofs.Common.{◌≡◌, ◌∙◌, ◌⊎◌, ◌<◌, ℕ, List, [], ◌∷◌, ◌++◌, drop, Contains, refl, ap, sym, subst, inl}
use Rattle.std.proofs.Common.{inr, arith}
use Rattle.std.proofs.lemmas.List.Elements.{Contains-append_cases, Contains-append_left, Contains-append_right}
use Rattle.std.specs.List.{AllByRecursion}
use Rattle.std.specs.declared.net.socket_addr.SocketAddr.{SocketAddr}
use Rattle.lk_types.specs.declared.command.Request.{Request}
use Rattle.lk_auth.specs.Seals.{key_list, framed_by}
use Rattle.lk_auth.specs.Seals as seals
use Rattle.lk_auth.specs.declared.frame.Scope.{Scope}
use Rattle.lk_auth.proofs.FrameLaws.{drop-sealed}
use Rattle.lk_messages.specs.Grammar.{Spells}
use Rattle.lk_messages.specs.declared.message.Content.TheVariants as content
use Rattle.lk_messages.specs.declared.message.Message.{Message}
use Rattle.lk_messages.proofs.Spellings.{one_message}
use Rattle.lk_agreement_laws.proofs.Histories.{cons_cases}
use Rattle.lk_node_interface.specs.declared.note.Note.{Note}
use Rattle.lk_node_interface.specs.declared.note.Note.TheVariants as note
use Rattle.lk_client.specs.Questions.{IsAsked}
use Rattle.lk_client.specs.declared.question.Question.{Question}
use Rattle.lk_guarantees.specs.ExactlyOnce.{IsAskedBy, WasAnswered, AsksAfter, FollowsRule}
use Rattle.lk_cluster_theorems.specs.Asking.{Carries, MayAsk, OnlyRunAsks, Run, AreRuns, notes_of}

-- ---- the request that a datagram carries

-- a frame is that of one datagram
framed_same : (keys : List (List ℕ)) (s t : Scope) (a b : List ℕ) → framed_by keys s a ≡ framed_by keys t b → a ≡ b
framed_same [] s t a b e = e
framed_same (key ∷ keys) s t a b e = sym (drop-sealed key s a) ∙ ap (drop 36) e ∙ drop-sealed key t b

abbrev asks_in : ℕ → Request → Message
asks_in cluster r = record { cluster = cluster; content = content.Request r }

request_of : (a b : Request) → content.Request a ≡ content.Request b → a ≡ b
request_of a b e = cc e

carried : (q : Question) (x : Request) (d : SocketAddr × List ℕ) → IsAsked q d.1 → Carries q d x → x ≡ q.request
carried q x d asks carries =
    let s : Scope = seals.asking q.destination.seals.cluster x.client in
    let t : Scope = seals.asking q.destination.seals.cluster q.request.client in
    let same : carries.0 ≡ asks.0 =
    framed_same (key_list q.destination.seals.keys) s t carries.0 asks.0 (sym carries.2 ∙ asks.2) in
    let spelled : Spells (asks_in q.cluster x) asks.0 =
    subst (λ (bytes : List ℕ). Spells (asks_in q.cluster x) bytes) same carries.1 in
    request_of x q.request (ap (λ (m : Message). m.content)
    (one_message (asks_in q.cluster x) (asks_in q.cluster q.request) asks.0 spelled asks.1))

all_at : {A : Type 0} (P : A → Type 0) (xs : List A) (x : A) → AllByRecursion P xs → Contains xs x → P x
all_at P [] x all c = absurd (omega (arith, c.1))
all_at P (y ∷ ys) x all c =
    elim (cons_cases y ys x c) [ inl e ↦ subst P e all.0 | inr later ↦ all_at P ys x all.1 later ]

-- ---- a trace that is cut twice

-- the second cut lies in the first part, or in the second
abbrev Cut : List Note → List Note → List Note → Note → List Note → Type 0
Cut before later front x back =
    ((rest : List Note) × (before ≡ front ++ x ∷ rest))
    ⊎ ((mid : List Note) × (front ≡ before ++ mid) × (later ≡ mid ++ x ∷ back))

cut : (before later front : List Note) (x : Note) (back : List Note) → before ++ later ≡ front ++ x ∷ back
    → Cut before later front x back
cut [] later front x back e = inr (front, refl, e)
cut (b ∷ before) later [] x back e = let head : b ≡ x = cc e in inl (before, ap (λ (y : Note). y ∷ before) head)
cut (b ∷ before) later (f ∷ front) x back e =
    let head : b ≡ f = cc e in
    elim (cut before later front x back (ap (drop 1) e)) [
      | inl here ↦ inl (here.0, λ i. head i ∷ here.1 i)
      | inr there ↦ inr (there.0, λ i. sym head i ∷ there.1 i, there.2)
    ]

nothing_behind : (front : List Note) (x : Note) (back : List Note) → [] ≡ front ++ x ∷ back → ⊥
nothing_behind [] x back e = cc e
nothing_behind (f ∷ front) x back e = cc e

-- ---- the rule

module _ (q : Question) (before later : List Note) (datagrams : List (SocketAddr × List ℕ))
    (run : AllByRecursion (λ (d : SocketAddr × List ℕ). IsAsked q d.1) datagrams)
    (rule : FollowsRule before q.request.client) (may : MayAsk before q.request)
    (only : OnlyRunAsks q before later datagrams) where
  -- what is asked later was asked earlier, or is the request of the run
  of_run : (x : Request) → IsAskedBy later q.request.client x → IsAskedBy before q.request.client x ⊎ (x ≡ q.request)
  of_run x asks = elim (only x asks) [
    | inl earlier ↦ inl earlier
    | inr c ↦ inr (carried q x c.0 (all_at (λ (d : SocketAddr × List ℕ). IsAsked q d.1) datagrams c.0 run c.1) c.2)
  ]

  of_both : (x : Request) → IsAskedBy (before ++ later) q.request.client x → IsAskedBy before q.request.client x
      ⊎ (x ≡ q.request)
  of_both x asks = elim (Contains-append_cases before later (note.Asked x) asks.0) [
    | inl earlier ↦ inl (earlier, asks.1)
    | inr c ↦ of_run x (c, asks.1)
  ]

  -- an earlier one of the same number is the same
  same_number : (x y : Request) → IsAskedBy before q.request.client x → y ≡ q.request → x.number ≡ y.number → x ≡ y
  same_number x y asks is same = elim (may x asks) [
    | inl e ↦ e ∙ sym is
    | inr below ↦ absurd (omega (arith, below.0, same, ap (λ (r : Request). r.number) is))
  ]

  one_operation : (x y : Request) → IsAskedBy (before ++ later) q.request.client x
      → IsAskedBy (before ++ later) q.request.client y → x.number ≡ y.number → x ≡ y
  one_operation x y asks_x asks_y same = elim (of_both x asks_x) [
    | inl x_earlier ↦ elim (of_both y asks_y) [
      | inl y_earlier ↦ rule.one_operation x y x_earlier y_earlier same
      | inr y_is ↦ same_number x y x_earlier y_is same
    ]
    | inr x_is ↦ elim (of_both y asks_y) [
      | inl y_earlier ↦ sym (same_number y x y_earlier x_is (sym same))
      | inr y_is ↦ x_is ∙ sym y_is
    ]
  ]

  module _ (front : List Note) (x y : Request) (a : AsksAfter (before ++ later) q.request.client front x y) where
    abbrev Precedes : Type 0
    Precedes = (x.number < y.number) × WasAnswered front q.request.client x.number

    differs : x ≡ y → ⊥
    differs is = a.first (subst (λ (z : Request). Contains front (note.Asked z)) is a.earlier.0)

    -- both were asked earlier
    both_earlier : (rest : List Note) → before ≡ front ++ note.Asked y ∷ rest → Precedes
    both_earlier rest here =
        let earlier : AsksAfter before q.request.client front x y =
        record { later = rest; here = here; of_client = a.of_client; first = a.first; earlier = a.earlier } in
        (rule.rises front x y earlier, rule.waits front x y earlier)

    -- the second one is that of the run, and the first one was asked earlier
    one_earlier : (mid : List Note) → front ≡ before ++ mid → y ≡ q.request → IsAskedBy before q.request.client x
        → Precedes
    one_earlier mid there is asks = elim (may x asks) [
      | inl same ↦ absurd (differs (same ∙ sym is))
      | inr below ↦ (
        omega (arith, below.0, ap (λ (r : Request). r.number) is),
        (
          below.1.0,
          below.1.1,
          subst (λ (l : List Note). Contains l (note.Answered below.1.0 q.request.client x.number below.1.1))
              (sym there)
              (Contains-append_left before mid (note.Answered below.1.0 q.request.client x.number below.1.1) below.1.2),
        ),
      )
    ]

    -- the second one is asked later for the first time, so it is that of the run
    is_of_run : (mid : List Note) → front ≡ before ++ mid → later ≡ mid ++ note.Asked y ∷ a.later → y ≡ q.request
    is_of_run mid there here =
        let asked : Contains later (note.Asked y) =
        subst (λ (l : List Note). Contains l (note.Asked y)) (sym here)
        (Contains-append_right mid (note.Asked y ∷ a.later) (note.Asked y) (0, omega arith, refl)) in
        elim (of_run y (asked, a.of_client)) [
          | inl earlier ↦ absurd (a.first
              (subst (λ (l : List Note). Contains l (note.Asked y)) (sym there)
              (Contains-append_left before mid (note.Asked y) earlier.0)))
          | inr is ↦ is
        ]

    one_later : (mid : List Note) → front ≡ before ++ mid → later ≡ mid ++ note.Asked y ∷ a.later → Precedes
    one_later mid there here =
        let is : y ≡ q.request = is_of_run mid there here in
        let asked : Contains (before ++ later) (note.Asked x) =
        subst (λ (l : List Note). Contains l (note.Asked x)) (sym a.here)
        (Contains-append_left front (note.Asked y ∷ a.later) (note.Asked x) a.earlier.0) in
        elim (of_both x (asked, a.earlier.1)) [
          | inl earlier ↦ one_earlier mid there is earlier
          | inr same ↦ absurd (differs (same ∙ sym is))
        ]

    precedes : Precedes
    precedes = elim (cut before later front (note.Asked y) a.later a.here) [
      | inl here ↦ both_earlier here.0 here.1
      | inr there ↦ one_later there.0 there.1 there.2
    ]

  pub follows_rule : FollowsRule (before ++ later) q.request.client
  follows_rule = record {
    one_operation = one_operation;
    rises = λ front x y a. (precedes front x y a).0;
    waits = λ front x y a. (precedes front x y a).1;
  }

-- ---- several runs

-- a client that has asked nothing follows the rule
asks_nothing : (client : ℕ) → FollowsRule [] client
asks_nothing client = record {
  one_operation = λ x y asks_x asks_y same. absurd (omega (arith, asks_x.0.1));
  rises = λ front x y a. absurd (nothing_behind front (note.Asked y) a.later a.here);
  waits = λ front x y a. absurd (nothing_behind front (note.Asked y) a.later a.here);
}

runs_follow : (client : ℕ) (before : List Note) (runs : List Run) → FollowsRule before client
    → AreRuns client before runs → FollowsRule (notes_of before runs) client
runs_follow client before [] rule are = rule
runs_follow client before (run ∷ runs) rule are =
    let loopback : FollowsRule before run.question.request.client = subst (FollowsRule before) (sym are.0) rule in
    let further : FollowsRule (before ++ run.later) run.question.request.client =
    follows_rule run.question before run.later run.sends.more run.sends.same loopback are.1 are.2 in
    runs_follow client (before ++ run.later) runs (subst (FollowsRule (before ++ run.later)) are.0 further) are.3

pub all_follow : (client : ℕ) (runs : List Run) → AreRuns client [] runs → FollowsRule (notes_of [] runs) client
all_follow client runs are = runs_follow client [] runs (asks_nothing client) are
