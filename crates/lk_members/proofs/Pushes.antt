-- One entry more: which requests take effect, the roster, and its last change.
use Rattle.std.proofs.Common.{◌≡◌, ◌+◌, cond, List, [], ◌∷◌, ◌++◌, length, Option, Some, None, fold, refl, ap, sym, ◌∙◌}
use Rattle.std.proofs.Common.{append_assoc, append-nil}
use Rattle.std.specs.List.{filter_map}
use Rattle.std.proofs.lemmas.List.Sums.{fold-append}
use Rattle.std.proofs.lemmas.List.Elements.{filter_map-append}
use Rattle.lk_members.specs.Effects.{Command, RequestValue, PositionedEntry, in_effect, positioned_after, positioned}
use Rattle.lk_members.specs.Effects.{effects}
use Rattle.lk_members.specs.Rosters.{Genesis, PlainRoster, next_roster, first_roster, roster_of, is_granted_change}
use Rattle.lk_members.specs.Rosters.{is_change, last_change}

positioned_after-push : (before rest : List Command) (c : Command)
    → positioned_after before (rest ++ c ∷ []) ≡ positioned_after before rest
    ++ record { before = before ++ rest; entry = c } ∷ []
positioned_after-push before [] c =
    ap (λ (l : List Command). let p : PositionedEntry = record { before = l; entry = c } in p ∷ [])
    (sym (append-nil before))
positioned_after-push before (x ∷ rest) c =
    let first : PositionedEntry = record { before = before; entry = x } in
    ap (λ (ps : List PositionedEntry). first ∷ ps)
    (positioned_after-push (before ++ x ∷ []) rest c
    ∙ ap (λ (l : List Command). let p : PositionedEntry = record { before = l; entry = c } in
    positioned_after (before ++ x ∷ []) rest ++ p ∷ []) (append_assoc before (x ∷ []) rest))

pub positioned-push : (L : List Command) (c : Command)
    → positioned (L ++ c ∷ []) ≡ positioned L ++ record { before = L; entry = c } ∷ []
unfolding positioned
positioned-push L c = positioned_after-push [] L c

-- the requests that one entry adds to those that take effect
abbrev pub added : Option RequestValue → List RequestValue
added None = []
added (Some r) = r ∷ []

added_is : (o : Option RequestValue) (p : PositionedEntry) → in_effect p.before p.entry ≡ o
    → filter_map (λ (p : PositionedEntry). in_effect p.before p.entry) (p ∷ []) ≡ added o
added_is None p e = rw e refl
added_is (Some r) p e = rw e refl

pub effects-push : (L : List Command) (c : Command) → effects (L ++ c ∷ []) ≡ effects L ++ added (in_effect L c)
unfolding effects
effects-push L c =
    let p : PositionedEntry = record { before = L; entry = c } in
    ap (filter_map (λ (p : PositionedEntry). in_effect p.before p.entry)) (positioned-push L c)
    ∙ filter_map-append (λ (p : PositionedEntry). in_effect p.before p.entry) (positioned L) (p ∷ [])
    ∙ ap (λ (rs : List RequestValue). effects L ++ rs) (added_is (in_effect L c) p refl)

-- the roster after a request that takes effect, or none
abbrev pub roster_behind : PlainRoster → Option RequestValue → PlainRoster
roster_behind r None = r
roster_behind r (Some q) = next_roster r q.op

fold_added : (r : PlainRoster) (o : Option RequestValue)
    → fold (λ (r : PlainRoster) (q : RequestValue). next_roster r q.op) r (added o) ≡ roster_behind r o
fold_added r None = refl
fold_added r (Some q) = refl

pub roster_of-push : (genesis : Genesis) (L : List Command) (c : Command)
    → roster_of genesis (L ++ c ∷ []) ≡ roster_behind (roster_of genesis L) (in_effect L c)
unfolding roster_of
roster_of-push genesis L c =
    ap (fold (λ (r : PlainRoster) (q : RequestValue). next_roster r q.op) (first_roster genesis)) (effects-push L c)
    ∙ fold-append (λ (r : PlainRoster) (q : RequestValue). next_roster r q.op) (first_roster genesis)
    (effects L) (added (in_effect L c))
    ∙ fold_added (roster_of genesis L) (in_effect L c)

pub last_change-push : (genesis : Genesis) (L : List Command) (c : Command)
    → last_change genesis (L ++ c ∷ [])
    ≡ cond (is_granted_change (roster_of genesis L) (in_effect L c)) (length L + 1) (last_change genesis L)
unfolding last_change
last_change-push genesis L c =
    let p : PositionedEntry = record { before = L; entry = c } in
    ap (fold (λ last (p : PositionedEntry). cond (is_change genesis p) (length p.before + 1) last) 0)
    (positioned-push L c)
    ∙ fold-append (λ last (p : PositionedEntry). cond (is_change genesis p) (length p.before + 1) last) 0
    (positioned L) (p ∷ [])
