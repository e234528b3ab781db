-- Envelopes that were given to a post, one after another.
use Rattle.std.proofs.Common.{Bool, List, [], ◌∷◌, ◌++◌, refl, subst}
use Rattle.lk_node_interface.specs.Envelopes.{EnvelopeValue}
use Rattle.lk_replica.specs.Posts.{CarriesAll}

-- one more
pub carries_more : {P : Type 0} (Carries : P → EnvelopeValue → Bool → P → Type 0) (old mid new : P)
    (envelopes : List EnvelopeValue) (l : EnvelopeValue) (is_sent : Bool) →
    CarriesAll Carries old envelopes mid → Carries mid l is_sent new → CarriesAll Carries old (envelopes ++ l ∷ []) new
carries_more {P} Carries old mid new [] l is_sent all one =
    (is_sent, new, subst (λ (p : P). Carries p l is_sent new) all one, refl)
carries_more {P} Carries old mid new (x ∷ xs) l is_sent all one =
    (all.0, all.1, all.2, carries_more Carries all.1 mid new xs l is_sent all.3 one)
