-- What a store stands for, as what an acceptor holds.
use Rattle.std.proofs.Common.{◌≡◌, List, [], ◌∷◌, ◌++◌, refl, ap, ◌∙◌}
use Rattle.std.specs.List.{AllByRecursion}
use Rattle.lk_types.specs.declared.entry.Entry.{Entry}
use Rattle.lk_types.specs.declared.entry.Entry.TheVariants.{Promise, Vote, Decided}
use Rattle.lk_store_format.specs.Standings.{with_plain, with_all}
use Rattle.lk_store_format.specs.Values.{StandingValue}
use Rattle.lk_agreement_laws.specs.Acceptors.{AcceptorState}
use Rattle.lk_acceptor.specs.States.{acceptor_with}
use Rattle.lk_node.specs.Leavings.{acceptor_of}
use Rattle.lk_node.specs.Keeping.{IsDecidedEntry}
use Rattle.lk_node.specs.SafeSteps.{with_entries}

-- one more entry is to a standing what it is to an acceptor
pub entry_is : (s : StandingValue) (e : Entry) → acceptor_of (with_plain e s) ≡ acceptor_with e (acceptor_of s)
entry_is s (Promise b) = refl
entry_is s (Vote v) = refl
entry_is s (Decided i c) = refl

-- so with more
pub entries_are : (s : StandingValue) (es : List Entry) → acceptor_of (with_all es s) ≡ with_entries es (acceptor_of s)
entries_are s [] = refl
entries_are s (e ∷ es) = entries_are (with_plain e s) es ∙ ap (with_entries es) (entry_is s e)

-- decided commands leave an acceptor as it is
pub decided_leave : (es : List Entry) (a : AcceptorState) → AllByRecursion IsDecidedEntry es → with_entries es a ≡ a
decided_leave [] a all = refl
decided_leave (Promise b ∷ es) a all = absurd all.0
decided_leave (Vote v ∷ es) a all = absurd all.0
decided_leave (Decided i c ∷ es) a all = decided_leave es a all.1

pub entries_behind : (es more : List Entry) (a : AcceptorState)
    → with_entries (es ++ more) a ≡ with_entries more (with_entries es a)
entries_behind [] more a = refl
entries_behind (e ∷ es) more a = entries_behind es more (acceptor_with e a)
