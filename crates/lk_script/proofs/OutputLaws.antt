-- By the rules of table mode an input has one output.
use Rattle.std.proofs.Common.{◌≡◌, ℕ, ◌+◌, ◌≤◌, true, false, List, [], ◌∷◌, ◌++◌, drop, Some, refl, sym, ap, subst, ◌∙◌}
use Rattle.std.proofs.Common.{arith, inl, inr}
use Rattle.std.specs.Prelude.{nat_le, ⊤}
use Rattle.std.proofs.lemmas.Bool.{eq-eqb, leb-true}
use Rattle.std.proofs.lemmas.Fmt.{decimal_injective}
use Rattle.std.proofs.lemmas.List.Elements.{All-contains}
use Rattle.std.proofs.lemmas.List.Sums.{AllPass-from_list_all}
use Rattle.hex.specs.Hex.{encode_lower}
use Rattle.lk_types.specs.declared.answer.Answer.{Answer}
use Rattle.lk_messages.specs.declared.message.NodeMessage.{NodeMessage}
use Rattle.lk_messages.specs.declared.message.NodeMessage.TheVariants as message
use Rattle.lk_messages.specs.declared.message.Content.TheVariants as content
use Rattle.lk_messages.specs.declared.message.Message.{Message}
use Rattle.lk_messages.specs.Grammar.{spelling, Spells}
use Rattle.lk_messages.proofs.Spellings.{one_message}
use Rattle.lk_members.specs.Effects.{Command, RequestValue, Request, PositionedEntry, in_effect, is_at_most, IsLast}
use Rattle.lk_members.proofs.Memberships.{numbers_take_effect_once}
use Rattle.lk_locks.specs.Lists.{table_of, table_answer}
use Rattle.lk_replica.specs.Behaviours.{Behaviour}
use Rattle.lk_script.specs.Replies.{IsReply, with_request}
use Rattle.lk_script.specs.Scripts.{Script, begun, table, world, IsUnderstood, RunsLine, Refuses, Stop, Runs}
use Rattle.lk_script.specs.Scripts.{OpensWorld}
use Rattle.lk_script.specs.Scripts.OpensWorld.{here, later}
use Rattle.lk_script.specs.TableMode.{Replies, Prints, IsTableLine, from_client, from_node, is_request_to, is_for_table}
use Rattle.lk_script.specs.TableMode.Replies.{answers, passes}
use Rattle.lk_script.specs.TableMode.Prints.{unreadable, others, not_here, replied}
use Rattle.lk_script.specs.Scripts.RunsLine.{begins, opens, prints, happens}
use Rattle.lk_script.specs.Scripts.Runs.{ends, skips, runs_line, stops, refuses}
use Rattle.lk_sim_nodes.specs.declared.refused.Refused.{Refused}
use Rattle.lk_script_lines.proofs.HexSpelling.{same_bytes}

some_same : {X : Type 0} {x y : X} → Some x ≡ Some y → x ≡ y
some_same e = cc

-- ---- a request has one reply

-- a client's number has one answer in a list
reply_once : (L : List Command) (client number : ℕ) (a b : Answer) → IsReply L client number a
    → IsReply L client number b → a ≡ b
reply_once L client number a b x y =
    let places : x.entry ≡ y.entry =
    numbers_take_effect_once L x.entry y.entry x.request y.request x.is_listed y.is_listed x.effective y.effective
    (x.of_client ∙ sym y.of_client) (x.of_number ∙ sym y.of_number) in
    let requests : x.request ≡ y.request =
    some_same (sym x.effective ∙ ap (λ (p : PositionedEntry). in_effect p.before p.entry) places ∙ y.effective) in
    some_same (sym x.answered ∙ ap (λ (r : RequestValue). table_answer r.client r.op (table_of x.entry.before)) requests
    ∙ ap (λ (p : PositionedEntry). table_answer y.request.client y.request.op (table_of p.before)) places ∙ y.answered)

-- the greatest number is not below one that was used
last_not_below : (L : List Command) (client m n : ℕ) → IsLast L client m → IsLast L client n → n ≤ m
last_not_below L client m n x y =
    let test : is_at_most client m (Request y.request) ≡ true =
    All-contains (λ c. is_at_most client m c ≡ true) L (Request y.request)
    (AllPass-from_list_all (is_at_most client m) L x.greatest) y.used in
    let reached : nat_le y.request.number m ≡ true = rw (eq-eqb y.request.client client y.of_client) at test in
    subst (λ (k : ℕ). k ≤ m) y.of_number (leb-true y.request.number m reached)

replies_once : (L : List Command) (r : RequestValue) (m n : NodeMessage) → Replies L r m → Replies L r n → m ≡ n
replies_once L r _ _ (answers a last reply) (answers b last' reply') =
    ap (λ (x : Answer). message.Answer (record { client = r.client; number = r.number; answer = x }))
    (reply_once L r.client r.number a b reply reply')
replies_once L r _ _ (answers a last reply) (passes n last' below) =
    absurd (omega (arith, last_not_below L r.client r.number n last last'))
replies_once L r _ _ (passes n last below) (answers b last' reply) =
    absurd (omega (arith, last_not_below L r.client r.number n last' last))
replies_once L r _ _ (passes m last below) (passes n last' below') =
    let same : m ≡ n = omega
    (arith, last_not_below L r.client m n last last', last_not_below L r.client n m last' last) in
    ap (λ (x : ℕ). message.Passed (record { client = r.client; number = r.number; last = x })) same

-- ---- a datagram prints one text

same_request : (cluster : ℕ) (r s : RequestValue) → from_client cluster r ≡ from_client cluster s → r ≡ s
same_request cluster r s e = let same : content.Request r ≡ content.Request s = ap (λ (m : Message). m.content) e in cc

asked : (cluster : ℕ) (r : RequestValue) → is_request_to cluster (from_client cluster r) ≡ true
asked cluster r = rw (eq-eqb cluster cluster refl) refl

-- what is no request to the cluster is not spelled as one
no_request : (cluster : ℕ) (bytes : List ℕ) (m : Message) (r : RequestValue) → Spells m bytes
    → is_request_to cluster m ≡ false → Spells (from_client cluster r) bytes → ⊥
no_request cluster bytes m r spells other asks =
    let bad : true ≡ false = sym (asked cluster r)
    ∙ ap (is_request_to cluster) (one_message (from_client cluster r) m bytes asks spells) ∙ other in absurd cc

-- of one request it is not said both that it asks the table and that it does not
no_both : (cluster : ℕ) (bytes : List ℕ) (r s : RequestValue) → Spells (from_client cluster r) bytes
    → is_for_table r.op ≡ false → Spells (from_client cluster s) bytes → is_for_table s.op ≡ true → ⊥
no_both cluster bytes r s one other two asks_table =
    let same : r ≡ s = same_request cluster r s
    (one_message (from_client cluster r) (from_client cluster s) bytes one two) in
    let bad : true ≡ false = sym asks_table ∙ ap (λ (q : RequestValue). is_for_table q.op) (sym same) ∙ other in
    absurd cc

prints_once : (cluster : ℕ) (L : List Command) (bytes a b : List ℕ) (after after' : List Command)
    → Prints cluster L bytes a after → Prints cluster L bytes b after' → (a ≡ b) × (after ≡ after')
prints_once cluster L bytes _ _ _ _ (unreadable none) (unreadable none') = (refl, refl)
prints_once cluster L bytes _ _ _ _ (unreadable none) (others m spells other) = absurd (none m spells)
prints_once cluster L bytes _ _ _ _ (unreadable none) (not_here r spells other) =
    absurd (none (from_client cluster r) spells)
prints_once cluster L bytes _ _ _ _ (unreadable none) (replied r m spells asks_table replies) =
    absurd (none (from_client cluster r) spells)
prints_once cluster L bytes _ _ _ _ (others m spells other) (unreadable none) = absurd (none m spells)
prints_once cluster L bytes _ _ _ _ (others m spells other) (others n spells' other') = (refl, refl)
prints_once cluster L bytes _ _ _ _ (others m spells other) (not_here r spells' other') =
    absurd (no_request cluster bytes m r spells other spells')
prints_once cluster L bytes _ _ _ _ (others m spells other) (replied r n spells' asks_table replies) =
    absurd (no_request cluster bytes m r spells other spells')
prints_once cluster L bytes _ _ _ _ (not_here r spells other) (unreadable none) =
    absurd (none (from_client cluster r) spells)
prints_once cluster L bytes _ _ _ _ (not_here r spells other) (others m spells' other') =
    absurd (no_request cluster bytes m r spells' other' spells)
prints_once cluster L bytes _ _ _ _ (not_here r spells other) (not_here s spells' other') = (refl, refl)
prints_once cluster L bytes _ _ _ _ (not_here r spells other) (replied s m spells' asks_table replies) =
    absurd (no_both cluster bytes r s spells other spells' asks_table)
prints_once cluster L bytes _ _ _ _ (replied r m spells asks_table replies) (unreadable none) =
    absurd (none (from_client cluster r) spells)
prints_once cluster L bytes _ _ _ _ (replied r m spells asks_table replies) (others n spells' other) =
    absurd (no_request cluster bytes n r spells' other spells)
prints_once cluster L bytes _ _ _ _ (replied r m spells asks_table replies) (not_here s spells' other) =
    absurd (no_both cluster bytes s r spells' other spells asks_table)
prints_once cluster L bytes _ _ _ _ (replied r m spells asks_table replies) (replied s n spells' table_too replies') =
    let same : r ≡ s = same_request cluster r s
    (one_message (from_client cluster r) (from_client cluster s) bytes spells spells') in
    let told : m ≡ n = replies_once (with_request L r) r m n replies
    (subst (λ (q : RequestValue). Replies (with_request L q) q n) (sym same) replies') in
    (ap (λ (x : NodeMessage). encode_lower (spelling (from_node cluster x))) told, ap (with_request L) same)

-- ---- a line is taken in one way

cluster_once : (line : List ℕ) (c d : ℕ) → IsTableLine line c → IsTableLine line d → c ≡ d
cluster_once line c d x y = decimal_injective c d x.0 y.0 (ap (λ (t : List ℕ). drop 6 t) (sym x.1 ∙ y.1))

-- no world is set up, nor will be by the next line
abbrev pub IsPlain : {R : Type 0} → Script R → List (List ℕ) → Type 0
IsPlain begun lines = OpensWorld lines → ⊥
IsPlain (table cluster L) lines = ⊤
IsPlain (world world_state done) lines = ⊥

plain_skipped : {R : Type 0} (s : Script R) (lines : List (List ℕ)) → IsPlain s ([] ∷ lines) → IsPlain s lines
plain_skipped begun lines plain = λ opened. plain (later lines opened)
plain_skipped (table cluster L) lines plain = tt
plain_skipped (world world_state done) lines plain = absurd plain

plain_taken : {R : Type 0} (b : Behaviour R) (s after : Script R) (line out : List ℕ) (lines : List (List ℕ))
    → IsPlain s (line ∷ lines) → RunsLine b s line out after → IsPlain after lines
plain_taken b _ _ line _ lines plain (begins l c first) = tt
plain_taken b _ _ line _ lines plain (opens l genesis first) =
    absurd (plain (here l genesis.cluster genesis.alpha genesis.members lines first))
plain_taken b _ _ line _ lines plain (prints cluster L l bytes text after spells printed) = tt
plain_taken b _ _ line _ lines plain (happens old new done l out o spells did) = absurd plain

not_refused : {R : Type 0} (b : Behaviour R) (s : Script R) (line out : List ℕ) (r : Refused) (lines : List (List ℕ))
    → IsPlain s lines → Refuses b s line out r → ⊥
not_refused b begun line out r lines plain refused = refused
not_refused b (table cluster L) line out r lines plain refused = refused
not_refused b (world world_state done) line out r lines plain refused = plain

takes_once : {R : Type 0} (b : Behaviour R) (s : Script R) (line out out' : List ℕ) (after after' : Script R)
    (lines : List (List ℕ)) → IsPlain s (line ∷ lines) → RunsLine b s line out after → RunsLine b s line out' after'
    → (out ≡ out') × (after ≡ after')
takes_once b _ line _ _ _ _ lines plain (begins l c first) (begins l' d first') =
    (refl, ap (λ (k : ℕ). table k []) (cluster_once line c d first first'))
takes_once b _ line _ _ _ _ lines plain (begins l c first) (opens l' genesis first') =
    absurd (plain (here l' genesis.cluster genesis.alpha genesis.members lines first'))
takes_once b _ line _ _ _ _ lines plain (opens l genesis first) other =
    absurd (plain (here l genesis.cluster genesis.alpha genesis.members lines first))
takes_once b _ line _ _ _ _ lines plain (happens old new done l out o spells did) other = absurd plain
takes_once b _ line _ _ _ _ lines plain (prints cluster L l bytes text after spells printed)
    (prints cluster' L' l' bytes' text' after' spells' printed') =
    let same : bytes' ≡ bytes = same_bytes line bytes' bytes spells' spells in
    let once = prints_once cluster L bytes text text' after after' printed
    (subst (λ (t : List ℕ). Prints cluster L t text' after') same printed') in
    (ap (λ (t : List ℕ). t ++ 10 ∷ []) once.0, ap (table cluster) once.1)

-- what is taken is understood
taken_understood : {R : Type 0} (b : Behaviour R) (s after : Script R) (line out : List ℕ)
    → RunsLine b s line out after → IsUnderstood s line
taken_understood b _ _ line _ (begins l c first) = inl (c, first)
taken_understood b _ _ line _ (opens l genesis first) = inr (genesis.cluster, genesis.alpha, genesis.members, first)
taken_understood b _ _ line _ (prints cluster L l bytes text after spells printed) = (bytes, spells)
taken_understood b _ _ line _ (happens old new done l out o spells did) = (o, spells)

-- ---- the lines of a script print one text

pub runs_once : {R : Type 0} (b : Behaviour R) (s : Script R) (n : ℕ) (lines : List (List ℕ)) (text text' : List ℕ)
    (stop end : Stop R) → IsPlain s lines → Runs b s n lines text stop → Runs b s n lines text' end
    → (text ≡ text') × (stop ≡ end)
runs_once b _ _ _ _ _ _ _ plain (ends s n) (ends s' n') = (refl, refl)
runs_once b _ _ _ _ _ _ _ plain (skips s n lines text stop r) (skips s' n' lines' text' stop' r') =
    runs_once b s (n + 1) lines text text' stop stop' (plain_skipped s lines plain) r r'
runs_once b _ _ _ _ _ _ _ plain (skips s n lines text stop r)
    (runs_line s' after n' line out lines' text' stop' filled t r') = absurd (filled refl)
runs_once b _ _ _ _ _ _ _ plain (skips s n lines text stop r) (stops s' n' line lines' filled none) =
    absurd (filled refl)
runs_once b _ _ _ _ _ _ _ plain (skips s n lines text stop r) (refuses s' n' line out why lines' filled refused) =
    absurd (filled refl)
runs_once b _ _ _ _ _ _ _ plain (runs_line s after n line out lines text stop filled t r)
    (skips s' n' lines' text' stop' r') = absurd (filled refl)
runs_once b _ _ _ _ _ _ _ plain (runs_line s after n line out lines text stop filled t r)
    (runs_line s' after' n' line' out' lines' text' stop' filled' t' r') =
    let line_once = takes_once b s line out out' after after' lines plain t t' in
    let rest = runs_once b after (n + 1) lines text text' stop stop' (plain_taken b s after line out lines plain t) r
    (subst (λ x. Runs b x (n + 1) lines text' stop') (sym line_once.1) r') in
    (ap (λ (x : List ℕ). x ++ text) line_once.0 ∙ ap (λ (x : List ℕ). out' ++ x) rest.0, rest.1)
runs_once b _ _ _ _ _ _ _ plain (runs_line s after n line out lines text stop filled t r)
    (stops s' n' line' lines' filled' none) = absurd (none (taken_understood b s after line out t))
runs_once b _ _ _ _ _ _ _ plain (runs_line s after n line out lines text stop filled t r)
    (refuses s' n' line' out' why lines' filled' refused) =
    absurd (not_refused b s line out' why (line ∷ lines) plain refused)
runs_once b _ _ _ _ _ _ _ plain (stops s n line lines filled none) (skips s' n' lines' text' stop' r') =
    absurd (filled refl)
runs_once b _ _ _ _ _ _ _ plain (stops s n line lines filled none)
    (runs_line s' after' n' line' out' lines' text' stop' filled' t' r') =
    absurd (none (taken_understood b s' after' line' out' t'))
runs_once b _ _ _ _ _ _ _ plain (stops s n line lines filled none) (stops s' n' line' lines' filled' none') =
    (refl, refl)
runs_once b _ _ _ _ _ _ _ plain (stops s n line lines filled none)
    (refuses s' n' line' out' why lines' filled' refused) =
    absurd (not_refused b s line out' why (line ∷ lines) plain refused)
runs_once b _ _ _ _ _ _ _ plain (refuses s n line out why lines filled refused) other =
    absurd (not_refused b s line out why (line ∷ lines) plain refused)
