-- How a run of a script goes on by a line.
use Rattle.std.proofs.Common.{◌≡◌, ◌≢◌, ℕ, ◌+◌, List, [], ◌∷◌, ◌++◌, Option, Some, None, IfSome, ◌⊎◌, inl, inr, refl}
use Rattle.std.proofs.Common.{sym, ap, subst, ap₂, ◌∙◌, append_assoc, length}
use Rattle.std.proofs.lemmas.List.{append-nil}
use Rattle.std.specs.Io.KnownBytes.{Appends}
use Rattle.lk_types.proofs.Appending.{appends_nothing, appends_more}
use Rattle.lk_types.specs.declared.member.Member.{Member}
use Rattle.lk_members.specs.Effects.{Command}
use Rattle.lk_replica.specs.Behaviours.{Behaviour}
use Rattle.lk_sim.specs.Runs.{AreExecuted}
use Rattle.lk_sim_nodes.specs.declared.refused.Refused.{Refused}
use Rattle.lk_script_lines.specs.HexLines.{SpellsBytes}
use Rattle.lk_script_lines.specs.Lines.{lines_of, ReadsLine, ReadsWithinLine}
use Rattle.lk_script.specs.TableMode.{Prints, IsTableLine}
use Rattle.lk_script_lines.specs.GenesisLines.{IsGenesisLine}
use Rattle.lk_script_lines.specs.WorldLines.{SpellsInstruction}
use Rattle.lk_script.specs.Worlds.{events_of, Follows, refused_line}
use Rattle.lk_script.specs.Scripts.{Script, begun, table, world, IsFirstLine, IsUnderstood, RunsLine, Refuses, Stop}
use Rattle.lk_script.specs.Scripts.{at_end, at_line, at_refusal, Runs, last_line}
use Rattle.lk_script.specs.Scripts.RunsLine.{prints, happens}
use Rattle.lk_script.specs.Scripts.Runs.{ends, skips, runs_line, stops, refuses}
use Rattle.lk_script.specs.Endings.{SetsUp, BreaksOff, EndsBy}
use Rattle.lk_script_lines.specs.Faults.{fault_of_line}
use Rattle.lk_script_lines.specs.declared.instruction.Instruction.{Instruction}
use Rattle.lk_script_lines.specs.declared.fault.ScriptFault.{ScriptFault}
use Rattle.lk_script_lines.specs.declared.fault.ScriptFault.TheVariants.{Read, Write, ScriptMemory, Ended}
use Rattle.lk_script_lines.specs.declared.fault.LineFault.{LineFault}
use Rattle.lk_script_lines.specs.declared.fault.LineFault.TheVariants.{NoMemory, NotUnderstood}
use Rattle.lk_script.specs.TableRuns.{HasExecuted, Fits}
use Rattle.lk_script.specs.declared.mode.Mode.{Mode}
use Rattle.lk_script.specs.declared.mode.Mode.TheVariants as mode
use Rattle.lk_script.specs.declared.table_run.TableRun.{TableRun}
use Rattle.lk_script.specs.declared.world_run.WorldRun.{WorldRun}
use Rattle.lk_script.proofs.Following.{GoesOn, all_passed}

-- a line where a table is set up
pub some_line : {R : Type 0} (b : Behaviour R) (s : Script R) (server new : TableRun) (line text : List ℕ)
    → Fits s (mode.Table server) → new.cluster ≡ server.cluster
    → ((L : List Command) → HasExecuted L server
    → (bytes : List ℕ) × (printed : List ℕ) × (after : List Command) × SpellsBytes line bytes
    × Prints server.cluster L bytes printed after × (text ≡ printed ++ 10 ∷ []) × HasExecuted after new)
    → (after : Script R) × RunsLine b s line text after × Fits after (mode.Table new)
some_line b begun server new line text fits same printed = absurd fits
some_line b (table cluster L) server new line text fits same printed =
    let p = printed L fits.1 in (
      table cluster p.2,
      subst (λ (t : List ℕ). RunsLine b (table cluster L) line t (table cluster p.2)) (sym p.5)
          (prints cluster L line p.0 p.1 p.2 p.3 (subst (λ (k : ℕ). Prints k L p.0 p.1 p.2) fits.0 p.4)),
      (same ∙ fits.0, p.6),
    )
some_line b (world world_state done) server new line text fits same printed = absurd fits

-- the line that sets something up
pub none_line : {R : Type 0} (b : Behaviour R) (s : Script R) (new : Mode R) (line text : List ℕ) → Fits s mode.Unset
    → (after : Script R) × RunsLine b begun line [] after × Fits after new → text ≡ []
    → (after : Script R) × RunsLine b s line text after × Fits after new
none_line b begun new line text fits set_up empty =
    (set_up.0, subst (λ (t : List ℕ). RunsLine b begun line t set_up.0) (sym empty) set_up.1, set_up.2)
none_line b (table k L) new line text fits set_up empty = absurd fits
none_line b (world world_state done) new line text fits set_up empty = absurd fits

-- the first line is neither that of a table nor that of a world
pub no_first : (line : List ℕ) → ((cluster : ℕ) → IsTableLine line cluster → ⊥)
    → ((cluster alpha : ℕ) (ms : List Member) → IsGenesisLine line cluster alpha ms → ⊥) → IsFirstLine line → ⊥
no_first line no_table no_world (inl t) = no_table t.0 t.1
no_first line no_table no_world (inr w) = no_world w.0 w.1 w.2 w.3

-- a line that is not understood, by what is set up
pub no_begin : {R : Type 0} (s : Script R) (line : List ℕ) → Fits s mode.Unset → (IsFirstLine line → ⊥)
    → IsUnderstood s line → ⊥
no_begin begun line fits none u = none u
no_begin (table cluster L) line fits none u = absurd fits
no_begin (world world_state done) line fits none u = absurd fits

pub no_bytes : {R : Type 0} (s : Script R) (server : TableRun) (line : List ℕ) → Fits s (mode.Table server)
    → ((bytes : List ℕ) → SpellsBytes line bytes → ⊥) → IsUnderstood s line → ⊥
no_bytes begun server line fits none u = absurd fits
no_bytes (table cluster L) server line fits none u = none u.0 u.1
no_bytes (world world_state done) server line fits none u = absurd fits

pub no_instruction : {R : Type 0} (s : Script R) (run : WorldRun R) (line : List ℕ) → Fits s (mode.World run)
    → ((o : Instruction) → SpellsInstruction line o → ⊥) → IsUnderstood s line → ⊥
no_instruction begun run line fits none u = absurd fits
no_instruction (table cluster L) run line fits none u = absurd fits
no_instruction (world world_state done) run line fits none u = none u.0 u.1

-- a line of a world, of which no event is refused
pub world_line : {R : Type 0} (b : Behaviour R) (s : Script R) (run new : WorldRun R) (line text : List ℕ)
    → Fits s (mode.World run) → GoesOn b run line None new
    → (after : Script R) × RunsLine b s line text after × Fits after (mode.World new)
world_line b begun run new line text fits went = absurd fits
world_line b (table cluster L) run new line text fits went = absurd fits
world_line b (world world_state done) run new line text fits went =
    let o = went.0 in
    let passes = subst (λ w. AreExecuted b (events_of o) w new.world) fits.0
    (all_passed b (events_of o) went.1 run.world new.world went.3) in (
      world new.world (done + length (events_of o)),
      happens world_state new.world done line text o went.2 passes,
      (refl, went.4 ∙ ap₂ (λ (m n : ℕ). m + n) fits.1 went.3.stops.0),
    )

-- and one of which an event is
pub world_refusal : {R : Type 0} (b : Behaviour R) (s : Script R) (run new : WorldRun R) (line text : List ℕ)
    (r : Refused) → Fits s (mode.World run) → GoesOn b run line (Some r) new
    → (printed : List ℕ) × (text ≡ printed ++ refused_line r) → Refuses b s line text r
world_refusal b begun run new line text r fits went printed = absurd fits
world_refusal b (table cluster L) run new line text r fits went printed = absurd fits
world_refusal b (world world_state done) run new line text r fits went printed = record {
  instruction = went.0;
  spelled = went.2;
  done = went.1;
  new = new.world;
  follows = subst (λ w. Follows b w (events_of went.0) went.1 (Some r) new.world) fits.0 went.3;
  printed = printed.0;
  out_is = printed.1;
}

-- a run so far: the lines read, what they printed, and what is set up after them
pub record SoFar {R : Type 0} (b : Behaviour R) (input : List ℕ) (before written left : Option (List ℕ))
    (server : Mode R) (number : ℕ) : Type 0 where
  pub front : List (List ℕ)
  pub rest : List ℕ
  pub text : List ℕ
  pub state : Script R
  pub left_is : left ≡ Some rest
  pub lines : lines_of input ≡ front ++ lines_of rest
  pub appended : Appends before written text
  pub fits : Fits state server
  pub on : (more : List (List ℕ)) (out : List ℕ) (stop : Stop R) → Runs b state number more out stop
      → Runs b begun 1 (front ++ more) (text ++ out) stop

-- nothing, and one text after another, that a writer took
pub starts : {R : Type 0} (b : Behaviour R) (input : List ℕ) (before left : Option (List ℕ)) → left ≡ Some input
    → SoFar b input before before left mode.Unset 1
starts b input before left is = record {
  front = [];
  rest = input;
  text = [];
  state = begun;
  left_is = is;
  lines = refl;
  appended = appends_nothing before;
  fits = tt;
  on = λ more out stop r. r;
}

-- an empty line was read
pub skipped : {R : Type 0} (b : Behaviour R)
    → (input : List ℕ) (before written left left' : Option (List ℕ)) (server : Mode R) (number : ℕ) (line : List ℕ)
    → line ≡ []
    → (so_far : SoFar b input before written left server number)
    → (rest : List ℕ) × (left' ≡ Some rest) × (lines_of so_far.rest ≡ line ∷ lines_of rest)
    → SoFar b input before written left' server (number + 1)
skipped b input before written left left' server number line empty s taken = record {
  front = s.front ++ [] ∷ [];
  rest = taken.0;
  text = s.text;
  state = s.state;
  left_is = taken.1;
  lines = s.lines ∙ ap (λ (ls : List (List ℕ)). s.front ++ ls)
      (taken.2 ∙ ap (λ (l : List ℕ). l ∷ lines_of taken.0) empty)
      ∙ sym (append_assoc s.front ([] ∷ []) (lines_of taken.0));
  appended = s.appended;
  fits = s.fits;
  on = λ more out stop r. subst (λ (ls : List (List ℕ)). Runs b begun 1 ls (s.text ++ out) stop)
      (sym (append_assoc s.front ([] ∷ []) more)) (s.on ([] ∷ more) out stop (skips s.state number more out stop r));
}

-- a line was taken, and what it prints was written
pub taken : {R : Type 0} (b : Behaviour R)
    → (input : List ℕ) (before written written' left left' : Option (List ℕ)) (server server' : Mode R) (number : ℕ)
    (line text : List ℕ) → line ≢ []
    → (so_far : SoFar b input before written left server number)
    → (rest : List ℕ) × (left' ≡ Some rest) × (lines_of so_far.rest ≡ line ∷ lines_of rest)
    → ((s : Script R) → Fits s server → (after : Script R) × RunsLine b s line text after × Fits after server')
    → Appends written written' text → SoFar b input before written' left' server' (number + 1)
taken b input before written written' left left' server server' number line text filled s read takes_it wrote =
    let t = takes_it s.state s.fits in
    record {
      front = s.front ++ line ∷ [];
      rest = read.0;
      text = s.text ++ text;
      state = t.0;
      left_is = read.1;
      lines = s.lines ∙ ap (λ (ls : List (List ℕ)). s.front ++ ls) read.2
          ∙ sym (append_assoc s.front (line ∷ []) (lines_of read.0));
      appended = appends_more before written written' s.text text s.appended wrote;
      fits = t.2;
      on = λ more out stop r.
          subst (λ (o : List ℕ). Runs b begun 1 ((s.front ++ line ∷ []) ++ more) o stop)
          (sym (append_assoc s.text text out))
          (subst (λ (ls : List (List ℕ)). Runs b begun 1 ls (s.text ++ (text ++ out)) stop)
          (sym (append_assoc s.front (line ∷ []) more))
          (s.on (line ∷ more) (text ++ out) stop (runs_line s.state t.0 number line text more out stop filled t.1 r)));
    }

-- the input is at its end, and what stands last was written
pub ended : {R : Type 0} (b : Behaviour R) (input : List ℕ) (before written written' left : Option (List ℕ))
    (server : Mode R) (number : ℕ) → (so_far : SoFar b input before written left server number) → so_far.rest ≡ []
    → ((s : Script R) → Fits s server → Appends written written' (last_line s))
    → (text : List ℕ) × SetsUp b input text server × Appends before written' text
ended b input before written written' left server number s none wrote = (
  s.text ++ last_line s.state,
  (
    record {
      state = s.state;
      printed = s.text;
      runs = subst (λ (t : List ℕ). Runs b begun 1 (lines_of input) t (at_end s.state)) (append-nil s.text)
          (subst (λ (ls : List (List ℕ)). Runs b begun 1 ls (s.text ++ []) (at_end s.state))
          (sym (s.lines ∙ ap (λ (t : List ℕ). s.front ++ lines_of t) none))
          (s.on [] [] (at_end s.state) (ends s.state number)));
      text_is = refl;
    },
    s.fits,
  ),
  appends_more before written written' s.text (last_line s.state) s.appended (wrote s.state s.fits),
)

-- the line is not understood
pub stopped : {R : Type 0} (b : Behaviour R)
    → (input : List ℕ) (before written left : Option (List ℕ)) (server : Mode R) (number : ℕ) (line : List ℕ)
    → line ≢ []
    → (so_far : SoFar b input before written left server number)
    → (rest : List ℕ) × (lines_of so_far.rest ≡ line ∷ lines_of rest)
    → ((s : Script R) → Fits s server → IsUnderstood s line → ⊥)
    → (text : List ℕ) × Runs b begun 1 (lines_of input) text (at_line number) × Appends before written text
stopped b input before written left server number line filled s read refused = (
  s.text ++ [],
  subst (λ (ls : List (List ℕ)). Runs b begun 1 ls (s.text ++ []) (at_line number))
      (sym (s.lines ∙ ap (λ (ls : List (List ℕ)). s.front ++ ls) read.1))
      (s.on (line ∷ lines_of read.0) [] (at_line number)
      (stops s.state number line (lines_of read.0) filled (refused s.state s.fits))),
  subst (Appends before written) (sym (append-nil s.text)) s.appended,
)

-- an event of the line was refused, and what the line printed was written
pub refused : {R : Type 0} (b : Behaviour R) (input : List ℕ) (before written written' left : Option (List ℕ))
    (server : Mode R) (number : ℕ) (line text : List ℕ) (r : Refused) → line ≢ []
    → (so_far : SoFar b input before written left server number)
    → (rest : List ℕ) × (lines_of so_far.rest ≡ line ∷ lines_of rest)
    → ((s : Script R) → Fits s server → Refuses b s line text r) → Appends written written' text
    → (all : List ℕ) × Runs b begun 1 (lines_of input) all (at_refusal r) × Appends before written' all
refused b input before written written' left server number line text r filled s read refusal wrote = (
  s.text ++ text,
  subst (λ (ls : List (List ℕ)). Runs b begun 1 ls (s.text ++ text) (at_refusal r))
      (sym (s.lines ∙ ap (λ (ls : List (List ℕ)). s.front ++ ls) read.1))
      (s.on (line ∷ lines_of read.0) text (at_refusal r)
      (refuses s.state number line text r (lines_of read.0) filled (refusal s.state s.fits))),
  appends_more before written written' s.text text s.appended wrote,
)

-- the run broke off
pub earlier : {R : Type 0} (b : Behaviour R)
    → (input : List ℕ) (before written left left' : Option (List ℕ)) (server : Mode R) (number : ℕ)
    → (so_far : SoFar b input before written left server number) → ReadsWithinLine so_far.rest left'
    → (text : List ℕ) × BreaksOff b input text left' × Appends before written text
earlier b input before written left left' server number s within = (
  s.text ++ [],
  record {
    front = s.front;
    behind = s.rest;
    lines = s.lines;
    state = s.state;
    printed = subst (λ (ls : List (List ℕ)). Runs b begun 1 ls (s.text ++ []) (at_end s.state)) (append-nil s.front)
        (s.on [] [] (at_end s.state) (ends s.state number));
    within_line = within;
  },
  subst (Appends before written) (sym (append-nil s.text)) s.appended,
)

-- ---- the same where the input is known

module _ {R : Type 0} (b : Behaviour R) (before written left : Option (List ℕ)) (server : Mode R) (number : ℕ) where
  -- a run so far of the known input
  abbrev pub Known : Option (List ℕ) → Type 0
  Known o = IfSome o (λ (input : List ℕ). SoFar b input before written left server number)

pub known_starts : {R : Type 0} (b : Behaviour R) (o before : Option (List ℕ)) → Known b before before o mode.Unset 1 o
known_starts b None before = tt
known_starts b (Some input) before = starts b input before (Some input) refl

at_rest : (left : Option (List ℕ)) (rest : List ℕ) (P : List ℕ → Type 0) → left ≡ Some rest → IfSome left P → P rest
at_rest left rest P e h = subst (λ (o : Option (List ℕ)). IfSome o P) e h

pub known_ended : {R : Type 0} (b : Behaviour R)
    → (o before written written' left : Option (List ℕ)) (server : Mode R) (number : ℕ)
    → Known b before written left server number o → IfSome left (λ (t : List ℕ). t ≡ [])
    → ((s : Script R) → Fits s server → Appends written written' (last_line s))
    → IfSome o (λ (input : List ℕ). (text : List ℕ) × SetsUp b input text server × Appends before written' text)
known_ended b None before written written' left server number s h wrote = tt
known_ended b (Some input) before written written' left server number s h wrote =
    ended b input before written written' left server number s
    (at_rest left s.rest (λ (t : List ℕ). t ≡ []) s.left_is h) wrote

pub known_broke : {R : Type 0} (b : Behaviour R) → (fault : ScriptFault) → (fault ≡ Read) ⊎ (fault ≡ ScriptMemory)
    → (o before written left left' : Option (List ℕ)) (server : Mode R) (number : ℕ)
    → IfSome left (λ (t : List ℕ). ReadsWithinLine t left') → Known b before written left server number o
    → IfSome o (λ (input : List ℕ). (text : List ℕ) × EndsBy b fault input text left' × Appends before written text)
known_broke b fault why None before written left left' server number within s = tt
known_broke b fault (inl e) (Some input) before written left left' server number within s =
    subst (λ (f : ScriptFault). (text : List ℕ) × EndsBy b f input text left' × Appends before written text) (sym e)
    (earlier b input before written left left' server number s
    (at_rest left s.rest (λ (t : List ℕ). ReadsWithinLine t left') s.left_is within))
known_broke b fault (inr e) (Some input) before written left left' server number within s =
    subst (λ (f : ScriptFault). (text : List ℕ) × EndsBy b f input text left' × Appends before written text) (sym e)
    (earlier b input before written left left' server number s
    (at_rest left s.rest (λ (t : List ℕ). ReadsWithinLine t left') s.left_is within))

pub known_failed : {R : Type 0} (b : Behaviour R) → (why : LineFault) (fault : ScriptFault) (number : ℕ)
    → fault ≡ fault_of_line number why → (line items : List ℕ) → line ≡ items → items ≢ []
    → (o before written left left' : Option (List ℕ)) (server : Mode R)
    → IfSome left (λ (t : List ℕ). ReadsLine t items left') → IfSome left (λ (t : List ℕ). ReadsWithinLine t left')
    → (why ≡ NotUnderstood → (s : Script R) → Fits s server → IsUnderstood s line → ⊥)
    → Known b before written left server number o
    → IfSome o (λ (input : List ℕ). (text : List ℕ) × EndsBy b fault input text left' × Appends before written text)
known_failed b why fault number e line items is filled None before written left left' server read within refused s = tt
known_failed b NoMemory fault number e line items is filled
    (Some input) before written left left' server read within refused s =
    known_broke b fault (inr e) (Some input) before written left left' server number within s
known_failed b NotUnderstood fault number e line items is filled
    (Some input) before written left left' server read within refused s =
    let taken = at_rest left s.rest (λ (t : List ℕ). ReadsLine t items left') s.left_is read in
    subst (λ (f : ScriptFault). (text : List ℕ) × EndsBy b f input text left' × Appends before written text) (sym e)
    (stopped b input before written left server number items filled s (taken.0, taken.2)
    (λ st fits u. refused refl st fits (subst (IsUnderstood st) (sym is) u)))

pub known_skipped : {R : Type 0} (b : Behaviour R)
    → (o before written left left' : Option (List ℕ)) (server : Mode R) (number : ℕ) (line : List ℕ) → line ≡ []
    → IfSome left (λ (t : List ℕ). ReadsLine t line left')
    → Known b before written left server number o → Known b before written left' server (number + 1) o
known_skipped b None before written left left' server number line empty read s = tt
known_skipped b (Some input) before written left left' server number line empty read s =
    skipped b input before written left left' server number line empty s
    (at_rest left s.rest (λ (t : List ℕ). ReadsLine t line left') s.left_is read)

pub known_taken : {R : Type 0} (b : Behaviour R)
    → (o before written written' left left' : Option (List ℕ)) (server server' : Mode R) (number : ℕ)
    (line items text : List ℕ) → line ≡ items → items ≢ []
    → IfSome left (λ (t : List ℕ). ReadsLine t items left')
    → ((s : Script R) → Fits s server → (after : Script R) × RunsLine b s line text after × Fits after server')
    → Appends written written' text
    → Known b before written left server number o → Known b before written' left' server' (number + 1) o
known_taken b None before written written' left left' server server' number line items text is filled
    read takes_it wrote s = tt
known_taken {R = R} b (Some input) before written written' left left' server server' number line items text is
    filled read takes_it wrote s =
    taken b input before written written' left left' server server' number items text filled s
    (at_rest left s.rest (λ (t : List ℕ). ReadsLine t items left') s.left_is read)
    (subst (λ (l : List ℕ). (s : Script R) → Fits s server
    → (after : Script R) × RunsLine b s l text after × Fits after server') is takes_it) wrote

pub known_refused : {R : Type 0} (b : Behaviour R) (fault : ScriptFault) (r : Refused) → fault ≡ Ended r
    → (o before written written' left left' : Option (List ℕ)) (server : Mode R) (number : ℕ)
    (line items text : List ℕ) → line ≡ items → items ≢ []
    → IfSome left (λ (t : List ℕ). ReadsLine t items left')
    → ((s : Script R) → Fits s server → Refuses b s line text r) → Appends written written' text
    → Known b before written left server number o
    → IfSome o (λ (input : List ℕ). (all : List ℕ) × EndsBy b fault input all left' × Appends before written' all)
known_refused b fault r e None before written written' left left' server number line items text is filled
    read refusal wrote s = tt
known_refused {R = R} b fault r e
    (Some input) before written written' left left' server number line items text is filled read refusal wrote s =
    let taken_line = at_rest left s.rest (λ (t : List ℕ). ReadsLine t items left') s.left_is read in
    subst (λ (f : ScriptFault). (all : List ℕ) × EndsBy b f input all left' × Appends before written' all) (sym e)
    (refused b input before written written' left server number items text r filled s (taken_line.0, taken_line.2)
    (subst (λ (l : List ℕ). (s : Script R) → Fits s server → Refuses b s l text r) is refusal) wrote)

-- what stands last was not written
module _ (fault : ScriptFault) where
  pub known_last : {R : Type 0} (b : Behaviour R) (o before written written' left left' : Option (List ℕ))
      (server : Mode R) (number : ℕ) → (fault ≡ Write) ⊎ ((fault ≡ ScriptMemory) × (written' ≡ written)) → fault ≢ Write
      → IfSome left (λ (t : List ℕ). ReadsWithinLine t left') → Known b before written left server number o
      → IfSome o (λ (input : List ℕ). (text : List ℕ) × EndsBy b fault input text left' × Appends before written' text)
  known_last b o before written written' left left' server number (inl e) not_write within s = absurd (not_write e)
  known_last b o before written written' left left' server number (inr e) not_write within s =
      subst (λ (w : Option (List ℕ)). IfSome o
      (λ (input : List ℕ). (text : List ℕ) × EndsBy b fault input text left' × Appends before w text)) (sym e.1)
      (known_broke b fault (inr e.0) o before written left left' server number within s)

  -- what a line printed was not written, or an event of it was refused
  pub known_line : {R : Type 0} (b : Behaviour R) (ended : Option Refused)
      (o before written written' left left' : Option (List ℕ)) (server : Mode R) (number : ℕ) (line items text : List ℕ)
      → (fault ≡ Write) ⊎ ((r : Refused) × (fault ≡ Ended r) × (ended ≡ Some r) × Appends written written' text)
      → fault ≢ Write → line ≡ items → items ≢ []
      → IfSome left (λ (t : List ℕ). ReadsLine t items left')
      → ((r : Refused) → ended ≡ Some r → (s : Script R) → Fits s server → Refuses b s line text r)
      → Known b before written left server number o
      → IfSome o (λ (input : List ℕ). (all : List ℕ) × EndsBy b fault input all left' × Appends before written' all)
  known_line b ended o before written written' left left' server number line items text
      (inl e) not_write is filled read refusal s = absurd (not_write e)
  known_line b ended o before written written' left left' server number line items text
      (inr e) not_write is filled read refusal s =
      known_refused b fault e.0 e.1 o before written written' left left' server number line items text is filled
      read (refusal e.0 e.2) e.3 s
