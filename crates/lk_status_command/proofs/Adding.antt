-- What is added to a JSON text, one part after another.
use Rattle.std.proofs.Common.{◌≡◌, List, [], ◌∷◌, ◌++◌, ℕ, refl, sym, ap, subst, ◌∙◌, append_assoc, append-nil, Ok}
use Rattle.std.proofs.lemmas.Grind.{flat_map-append}
use Rattle.std.specs.List.{flat_map}
use Rattle.json.specs.Json.{Json}
use Rattle.json.specs.Token.{Token, key, begin_object, end_object, begin_array, end_array}
use Rattle.json.specs.Tree.{items_tokens, json_tokens, members_tokens}
use Rattle.json.specs.Written.{Written, Writes}
use Rattle.lk_status_command.specs.Json.{Adds, AddsItems, AddsMembers, AddsValue, Entry, array_of, entry_tokens}
use Rattle.lk_status_command.specs.Json.{items_of, members_of, object_of}

-- a token that a writer took
pub taken : {E : Type 0} (done : Unit {0}) (t : Token) (old new : Written) → Writes {E = E} (Ok done) old new t
    → Adds (t ∷ []) old new
taken done t old new took = record { before = took.room.0; tokens = took.ok }

pub adds_more : (a b c : Written) (x y : List Token) → Adds x a b → Adds y b c → Adds (x ++ y) a c
adds_more a b c x y f g = record {
  before = g.before ∙ f.before;
  tokens = g.tokens ∙ ap (λ (ts : List Token). ts ++ y) f.tokens ∙ append_assoc a.tokens x y;
}

pub members_more : (a b c : Written) (x y : List Entry) → AddsMembers x a b → AddsMembers y b c
    → AddsMembers (x ++ y) a c
members_more a b c x y f g =
    subst (λ (ts : List Token). Adds ts a c) (sym (flat_map-append entry_tokens x y)) (adds_more a b c _ _ f g)

-- ---- what stands between brackets

members_end : (es : List Entry) → flat_map entry_tokens es ++ end_object ∷ [] ≡ members_tokens (members_of es)
members_end [] = refl
members_end (e ∷ es) =
    append_assoc (entry_tokens e) (flat_map entry_tokens es) (end_object ∷ [])
    ∙ ap (λ (ts : List Token). entry_tokens e ++ ts) (members_end es)

items_end : (js : List Json) → flat_map json_tokens js ++ end_array ∷ [] ≡ items_tokens (items_of js)
items_end [] = refl
items_end (j ∷ js) =
    append_assoc (json_tokens j) (flat_map json_tokens js) (end_array ∷ [])
    ∙ ap (λ (ts : List Token). json_tokens j ++ ts) (items_end js)

pub object_added : (a b c d : Written) (es : List Entry) → Adds (begin_object ∷ []) a b → AddsMembers es b c
    → Adds (end_object ∷ []) c d → AddsValue (object_of es) a d
object_added a b c d es opened added closed =
    subst (λ (ts : List Token). Adds (begin_object ∷ ts) a d) (members_end es)
    (adds_more a b d _ _ opened (adds_more b c d _ _ added closed))

pub array_added : (a b c d e : Written) (name : List ℕ) (js : List Json) → Adds (key name ∷ []) a b
    → Adds (begin_array ∷ []) b c → AddsItems js c d → Adds (end_array ∷ []) d e
    → AddsMembers ((name, array_of js) ∷ []) a e
array_added a b c d e name js named opened added closed =
    subst (λ (ts : List Token). Adds (key name ∷ begin_array ∷ ts) a e)
    (items_end js ∙ sym (append-nil (items_tokens (items_of js))))
    (adds_more a b e _ _ named (adds_more b c e _ _ opened (adds_more c d e _ _ added closed)))

-- ---- a loop

-- of all, the rest is not added yet
abbrev pub Left : List Token → List Token → Written → Written → Type 0
Left all rest old new = (new.before ≡ old.before) × (new.tokens ++ rest ≡ old.tokens ++ all)

pub all_added : (a b : Written) (all rest : List Token) → Left all rest a b → rest ≡ [] → Adds all a b
all_added a b all rest f none = record {
  before = f.0;
  tokens = sym (append-nil b.tokens) ∙ ap (λ (ts : List Token). b.tokens ++ ts) (sym none) ∙ f.1;
}
