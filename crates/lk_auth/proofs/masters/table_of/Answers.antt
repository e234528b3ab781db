use Rattle.std.proofs.Common.{◌≡◌, ℕ, zero, suc, ◌<◌, ◌⊎◌, List, [], ◌∷◌, ◌++◌, length, Some, slice_get, refl, ap}
use Rattle.std.proofs.Common.{subst, sym, ◌∙◌, inl, inr, arith, length-append}
use Rattle.lk_auth.specs.Clients.{client_keys}
use Rattle.lk_auth.specs.KeyLists.{key_list}
use Rattle.lk_auth.specs.Masters.{IsTable}
use Rattle.lk_auth.specs.declared.keys.Keys.{Keys}
use Rattle.lk_auth.proofs.masters.table_of.Goals as goal

no_entry : {X : Type 0} (k : ℕ) (x : X) → slice_get [] k ≡ Some x → ⊥
no_entry k x at = absurd cc

-- an entry of a list that is one longer stands in the list, or is the new one
push_cases : {X : Type 0} (L : List X) (x v : X) (k : ℕ) → slice_get (L ++ x ∷ []) k ≡ Some v
    → ((k < length L) × (slice_get L k ≡ Some v)) ⊎ ((k ≡ length L) × (x ≡ v))
push_cases [] x v zero h = inr (refl, cc)
push_cases [] x v (suc k) h = absurd cc
push_cases (y ∷ L) x v zero h = inl (omega arith, h)
push_cases (y ∷ L) x v (suc k) h =
    elim (push_cases L x v k h) [ inl l ↦ inl (omega (arith, l.0), l.1) | inr r ↦ inr (ap suc r.0, r.1) ]

one_more : (masters : Keys) (table : List Keys) (client : ℕ) (keys : Keys)
    → IsTable masters table → length table ≡ client
    → key_list keys ≡ client_keys client (key_list masters) → IsTable masters (table ++ keys ∷ [])
one_more masters table client keys is long yields = record {
  at = λ other found at. elim (push_cases table keys found other at) [
    | inl l ↦ is.at other found l.1
    | inr r ↦ ap key_list (sym r.1) ∙ yields ∙ ap (λ c. client_keys c (key_list masters)) (sym (r.0 ∙ long))
  ];
}

none_is : (masters : Keys) (table : List Keys) → table ≡ [] → IsTable masters table
none_is masters table none =
    record {
      at = λ client keys at. absurd
          (no_entry client keys (subst (λ t. slice_get t client ≡ Some keys) none at));
    }

pub clients-init : goal.clients-init
clients-init c = (ap length c.in_ok-table.ensures.items, none_is _ _ c.in_ok-table.ensures.items)

pub clients-preserved : goal.clients-preserved
clients-preserved c =
    let more = c.in_ok-push.ensures.items in (
      omega (
        arith,
        ap length more,
        length-append c.clients.table.items (c.of_client.result ∷ []),
        c.clients.invariant.0,
      ),
      subst (IsTable c.args.masters.now) (sym more)
          (one_more c.args.masters.now c.clients.table.items c.clients.client c.of_client.result c.clients.invariant.1
          c.clients.invariant.0 c.of_client.ensures),
    )
