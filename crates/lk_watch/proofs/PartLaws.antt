-- Each part of a watch and of a notice reads what its spelling is.
use Rattle.std.proofs.Common.{◌≡◌, ℕ, suc, ◌-◌, ◌^◌, ◌<◌, ◌≤◌, Bool, true, false, cond, ltb, eqb, ◌&&◌, List, [], ◌∷◌}
use Rattle.std.proofs.Common.{◌++◌, length, take, drop, replicate, Option, Some, None, refl, ap, sym, subst, ◌∙◌}
use Rattle.std.proofs.Common.{arith, inl, inr}
use Rattle.std.proofs.lemmas.Bool.{eqb-true, ltb-false, le-ltb}
use Rattle.std.proofs.lemmas.Bool.Decides.{nat_tests}
use Rattle.std.proofs.lemmas.List.{take_at, drop_at, take-append-drop, length-append, length-take, length-replicate}
use Rattle.lk_types.specs.Ranges.{IsNode, IsClient, IsCount}
use Rattle.lk_codec.specs.Fields.{one, two, four, eight}
use Rattle.lk_codec.specs.Parser.{◌>>=◌, read_byte, both, made, tested}
use Rattle.lk_codec.specs.FieldReading.{is_from_1_to, read_two, read_four, read_eight, read_node, read_client}
use Rattle.lk_codec.specs.FieldReading.{read_count}
use Rattle.lk_codec.proofs.Spellings.{IsBytes, IsBytes-drop, IsBytes-take, bind_ok, chosen, some_is, Took, Reads}
use Rattle.lk_codec.proofs.Spellings.{fitting, both_reads, made_reads, made_as, byte_reads, two_reads, four_reads}
use Rattle.lk_codec.proofs.Spellings.{eight_reads, tested_reads, node_reads, client_reads, count_reads, ranged_reads}
use Rattle.lk_codec.proofs.Spellings.{length-two, length-four, length-eight}
use Rattle.lk_locks.specs.Names.{IsName}
use Rattle.lk_locks.specs.Bodies.{lock_name, read_name}
use Rattle.lk_locks.specs.NameLaws.{name_length, name_reads}
use Rattle.lk_watch.specs.Grammar.{mode_number, news_number, name_field, ticket, front, watch, notice, IsTicket}
use Rattle.lk_watch.specs.Grammar.{IsWatch, IsNotice}
use Rattle.lk_watch.specs.Reading.{mode_of, read_mode, news_of, read_news, are_zeros, read_name_field, read_ticket}
use Rattle.lk_watch.specs.Reading.{no_number, read_watch_fields, read_notice_fields, fronted}
use Rattle.lk_watch.specs.declared.ticket.Mode.{Mode}
use Rattle.lk_watch.specs.declared.ticket.Mode.TheVariants.{Exclusive, Share}
use Rattle.lk_watch.specs.declared.ticket.Ticket.{Ticket}
use Rattle.lk_watch.specs.declared.watch.Watch.{Watch}
use Rattle.lk_watch.specs.declared.notice.News.{News}
use Rattle.lk_watch.specs.declared.notice.News.TheVariants.{Free, Held, NotHere}
use Rattle.lk_watch.specs.declared.notice.Notice.{Notice}

module _ {X Y : Type 0} where
  -- another view of the value, which can be undone where it fits
  remade_reads : (f : X → Y) (g : Y → X) (p : List ℕ → Option (X × List ℕ)) (s : X → List ℕ)
      (F : X → Type 0) (G : Y → Type 0)
      → ((x : X) → F x → (g (f x) ≡ x) × G (f x)) → ((y : Y) → G y → (f (g y) ≡ y) × F (g y)) → Reads p s F
      → Reads (made f p) (λ (y : Y). s (g y)) G
  remade_reads f g p s F G to back r = record {
    takes = λ bytes y rest h e. made_as f p s F r
        (λ (z : Y) (w : List ℕ). Took (λ (y : Y). s (g y)) G bytes z w) bytes y rest h e
        (λ x t. let is = to x t.fits in record { parts = rw is.0 t.parts; rest_fits = t.rest_fits; fits = is.1 });
    again = λ y rest fits. let is = back y fits in rw (r.again (g y) rest is.1) (ap (λ (z : Y). Some (z, rest)) is.0);
  }

-- ---- numbers of choices

mode_to : (n : ℕ) → (1 ≤ n) × (n ≤ 2) → (mode_number (mode_of n) ≡ n) × Unit {0}
mode_to ℕ.zero h = absurd (omega (arith, h.0))
mode_to (suc ℕ.zero) h = (refl, tt)
mode_to (suc (suc ℕ.zero)) h = (refl, tt)
mode_to (suc (suc (suc n))) h = absurd (omega (arith, h.1))

mode_back : (m : Mode) → Unit {0} → (mode_of (mode_number m) ≡ m) × ((1 ≤ mode_number m) × (mode_number m ≤ 2))
mode_back Exclusive h = (refl, (omega arith, omega arith))
mode_back Share h = (refl, (omega arith, omega arith))

mode_reads : Reads read_mode (λ (m : Mode). one (mode_number m)) (λ (m : Mode). Unit {0})
unfolding read_mode
mode_reads = remade_reads mode_of mode_number (tested (is_from_1_to 2) read_byte) one (λ n. (1 ≤ n) × (n ≤ 2))
    (λ (m : Mode). Unit {0}) mode_to mode_back (ranged_reads 2 256 (omega arith) read_byte one byte_reads)

news_to : (n : ℕ) → (1 ≤ n) × (n ≤ 3) → (news_number (news_of n) ≡ n) × Unit {0}
news_to ℕ.zero h = absurd (omega (arith, h.0))
news_to (suc ℕ.zero) h = (refl, tt)
news_to (suc (suc ℕ.zero)) h = (refl, tt)
news_to (suc (suc (suc ℕ.zero))) h = (refl, tt)
news_to (suc (suc (suc (suc n)))) h = absurd (omega (arith, h.1))

news_back : (m : News) → Unit {0} → (news_of (news_number m) ≡ m) × ((1 ≤ news_number m) × (news_number m ≤ 3))
news_back Free h = (refl, (omega arith, omega arith))
news_back Held h = (refl, (omega arith, omega arith))
news_back NotHere h = (refl, (omega arith, omega arith))

news_reads : Reads read_news (λ (m : News). one (news_number m)) (λ (m : News). Unit {0})
unfolding read_news
news_reads = remade_reads news_of news_number (tested (is_from_1_to 3) read_byte) one (λ n. (1 ≤ n) × (n ≤ 3))
    (λ (m : News). Unit {0}) news_to news_back (ranged_reads 3 256 (omega arith) read_byte one byte_reads)

-- ---- a name with zeros behind it

both_are : (a b : Bool) → (a && b) ≡ true → (a ≡ true) × (b ≡ true)
both_are true b e = (refl, e)
both_are false b e = absurd cc

zeros : (bytes : List ℕ) → are_zeros bytes ≡ true → bytes ≡ replicate (length bytes) 0
zeros [] e = refl
zeros (b ∷ bytes) e =
    let are = both_are (eqb b 0) (are_zeros bytes) e in
    rw (eqb-true _ _ are.0) (ap (λ (w : List ℕ). 0 ∷ w) (zeros bytes are.1))

are_zeros-replicate : (n : ℕ) → are_zeros (replicate n 0) ≡ true
are_zeros-replicate ℕ.zero = refl
are_zeros-replicate (suc n) = are_zeros-replicate n

pub length-name_field : (name : List ℕ) → IsName name → length (name_field name) ≡ 33
unfolding name_field
length-name_field name fits =
    omega (
      arith,
      name_length name fits,
      length-append (lock_name name) (replicate (32 - length name) 0),
      length-replicate {A = ℕ} (32 - length name) 0,
    )

rest_is : (field name rest : List ℕ) → field ≡ lock_name name ++ rest → length field ≡ 33
    → length rest ≡ 32 - length name
rest_is field name rest e whole =
    let long : length field ≡ length (lock_name name ++ rest) = ap length e in
    omega (arith, long, length-append (lock_name name) rest)

is_field : (field name rest : List ℕ) → field ≡ lock_name name ++ rest → length field ≡ 33 → are_zeros rest ≡ true
    → field ≡ name_field name
unfolding name_field
is_field field name rest e whole nothing =
    e ∙ ap (λ (w : List ℕ). lock_name name ++ w) (zeros rest nothing)
    ∙ ap (λ (n : ℕ). lock_name name ++ replicate n 0) (rest_is field name rest e whole)

name_field_takes : (bytes name rest : List ℕ) → IsBytes bytes → read_name_field bytes ≡ Some (name, rest)
    → Took name_field IsName bytes name rest
unfolding read_name_field
name_field_takes bytes name rest h e =
    elim (chosen (ltb (length bytes) 33) None
    (read_name (take 33 bytes) >>= λ a. cond (are_zeros a.1) (Some (a.0, drop 33 bytes)) None) (Some (name, rest)) e) [
      | inl short ↦ let bad = short.1 in absurd cc
      | inr long ↦
          let enough : 33 ≤ length bytes = ltb-false _ _ long.0 in
          let a = bind_ok (read_name (take 33 bytes))
          (λ a. cond (are_zeros a.1) (Some (a.0, drop 33 bytes)) None) (name, rest) long.1 in
          let t = name_reads.takes (take 33 bytes) a.0.0 a.0.1 (IsBytes-take 33 bytes h) a.1 in
          elim (chosen (are_zeros a.0.1) (Some (a.0.0, drop 33 bytes)) None (Some (name, rest)) a.2) [
            | inr more ↦ let bad = more.1 in absurd cc
            | inl nothing ↦
                let cut : List ℕ × List ℕ = (a.0.0, drop 33 bytes) in
                subst (λ (z : List ℕ × List ℕ). Took name_field IsName bytes z.0 z.1)
                (some_is cut (name, rest) nothing.1)
                (record {
                  parts = sym (take-append-drop 33 bytes)
                      ∙ ap (λ (w : List ℕ). w ++ drop 33 bytes)
                      (is_field (take 33 bytes) a.0.0 a.0.1 t.parts (omega (arith, enough, length-take 33 bytes))
                      nothing.0);
                  rest_fits = IsBytes-drop 33 bytes h;
                  fits = t.fits;
                })
          ]
    ]

field_again : (name : List ℕ) → IsName name → read_name (name_field name) ≡ Some (name, replicate (32 - length name) 0)
unfolding name_field
field_again name fits = name_reads.again name (replicate (32 - length name) 0) fits

name_field_again : (name rest : List ℕ) → IsName name → read_name_field (name_field name ++ rest) ≡ Some (name, rest)
unfolding read_name_field
name_field_again name rest fits =
    let whole = length-name_field name fits in
    let long : ltb (length (name_field name ++ rest)) 33 ≡ false =
    le-ltb _ _ (omega (arith, whole, length-append (name_field name) rest)) in
    rw (
      long,
      take_at (name_field name) rest 33 whole,
      drop_at (name_field name) rest 33 whole,
      field_again name fits,
      are_zeros-replicate (32 - length name),
    )
    refl

name_field_reads : Reads read_name_field name_field IsName
name_field_reads = record { takes = name_field_takes; again = name_field_again }

-- ---- the parts

-- a number that is 0
zero_reads : (limit : ℕ) → 0 < limit → (p : List ℕ → Option (ℕ × List ℕ)) (s : ℕ → List ℕ)
    → Reads p s (λ n. n < limit) → Reads (no_number p) s (λ n. n ≡ 0)
zero_reads limit some p s r = fitting (no_number p) s (λ n. (n < limit) × (eqb n 0 ≡ true)) (λ n. n ≡ 0)
    (λ n f. eqb-true _ _ f.1) (λ n e. rw e (some, refl)) (tested_reads (λ n. eqb n 0) p s (λ n. n < limit) r)

ticket_reads : Reads read_ticket ticket IsTicket
unfolding read_ticket
ticket_reads = fitting read_ticket ticket
    (λ (t : Ticket). IsClient t.client × ((t.number < 2 ^ 64) × (IsCount t.fence × (Unit {0} × IsName t.name))))
    IsTicket (λ t f. (f.0, f.1.0, f.1.1.0, f.1.1.1.1)) (λ t f. (f.0, (f.1, (f.2, (tt, f.3)))))
    (made_reads (λ (t : ℕ × (ℕ × (ℕ × (Mode × List ℕ)))). let x : Ticket =
    record { client = t.0; number = t.1.0; fence = t.1.1.0; mode = t.1.1.1.0; name = t.1.1.1.1 } in x)
    (λ (t : Ticket). (t.client, (t.number, (t.fence, (t.mode, t.name))))) (λ x. refl) (λ y. refl) _ _ _
    (both_reads read_client two IsClient _ _ _ client_reads
    (both_reads read_eight eight (λ n. n < 2 ^ 64) _ _ _ eight_reads
    (both_reads read_count eight IsCount _ _ _ count_reads
    (both_reads read_mode (λ (m : Mode). one (mode_number m)) (λ (m : Mode). Unit {0})
    read_name_field name_field IsName mode_reads name_field_reads)))))

-- ---- a watch

-- the parts of a watch, as they follow one another
abbrev Asking : Type 0
Asking = ℕ × (ℕ × (Ticket × (ℕ × ℕ)))

abbrev IsAsking : Asking → Type 0
IsAsking x = (x.0 < 2 ^ 64) × ((x.1.0 ≡ 0) × (IsTicket x.1.1.0 × ((x.1.1.1.0 < 256) × (x.1.1.1.1 ≡ 0))))

abbrev asked : Asking → List ℕ
asked x = eight x.0 ++ (four x.1.0 ++ (ticket x.1.1.0 ++ (one x.1.1.1.0 ++ two x.1.1.1.1)))

abbrev watch_by : Asking → Watch
watch_by x = record { cluster = x.0; ticket = x.1.1.0; periods = x.1.1.1.0 }

abbrev asking_of : Watch → Asking
asking_of w = (w.cluster, (0, (w.ticket, (w.periods, 0))))

to_watch : (x : Asking) → IsAsking x → (asking_of (watch_by x) ≡ x) × IsWatch (watch_by x)
to_watch x f = (
  ap (λ (z : ℕ). let y : Asking = (x.0, (z, (x.1.1.0, (x.1.1.1.0, 0)))) in y) (sym f.1.0)
      ∙ ap (λ (z : ℕ). let y : Asking = (x.0, (x.1.0, (x.1.1.0, (x.1.1.1.0, z)))) in y) (sym f.1.1.1.1),
  (f.0, f.1.1.0, f.1.1.1.0),
)

pub watch_fields_reads : Reads read_watch_fields watch IsWatch
unfolding read_watch_fields
watch_fields_reads = remade_reads watch_by asking_of
    (both read_eight (both (no_number read_four) (both read_ticket (both read_byte (no_number read_two))))) asked
    IsAsking IsWatch to_watch (λ w f. (refl, (f.0, (refl, (f.1, (f.2, refl))))))
    (both_reads read_eight eight (λ n. n < 2 ^ 64) _ _ _ eight_reads
    (both_reads (no_number read_four) four (λ n. n ≡ 0) _ _ _
    (zero_reads (2 ^ 32) (omega arith) read_four four four_reads)
    (both_reads read_ticket ticket IsTicket _ _ _ ticket_reads
    (both_reads read_byte one (λ n. n < 256) (no_number read_two) two (λ n. n ≡ 0) byte_reads
    (zero_reads (2 ^ 16) (omega arith) read_two two two_reads)))))

-- ---- a notice

pub notice_fields_reads : Reads read_notice_fields notice IsNotice
unfolding read_notice_fields
notice_fields_reads = fitting read_notice_fields notice
    (λ (n : Notice). (n.cluster < 2 ^ 64) × (IsNode n.node × (IsTicket n.ticket × (Unit {0} × (n.place < 2 ^ 16)))))
    IsNotice (λ n f. (f.0, f.1.0, f.1.1.0, f.1.1.1.1)) (λ n f. (f.0, (f.1, (f.2, (tt, f.3)))))
    (made_reads (λ (n : ℕ × (ℕ × (Ticket × (News × ℕ)))). let x : Notice =
    record { cluster = n.0; node = n.1.0; ticket = n.1.1.0; news = n.1.1.1.0; place = n.1.1.1.1 } in x)
    (λ (n : Notice). (n.cluster, (n.node, (n.ticket, (n.news, n.place))))) (λ x. refl) (λ y. refl) _ _ _
    (both_reads read_eight eight (λ n. n < 2 ^ 64) _ _ _ eight_reads
    (both_reads read_node four IsNode _ _ _ node_reads
    (both_reads read_ticket ticket IsTicket _ _ _ ticket_reads
    (both_reads read_news (λ (m : News). one (news_number m)) (λ (m : News). Unit {0})
    read_two two (λ n. n < 2 ^ 16) news_reads two_reads)))))

-- ---- behind the letters

envelopes : (k a b c d : ℕ) → (eqb a 76 && eqb b 87 && eqb c 1 && eqb d k) ≡ true
    → (a ≡ 76) × (b ≡ 87) × (c ≡ 1) × (d ≡ k)
envelopes k a b c d e = grind (arith, nat_tests)

same : (k : ℕ) → eqb k k ≡ true
same k = grind (arith, nat_tests)

module _ {X : Type 0} where
  fronted_takes : (k : ℕ) (p : List ℕ → Option (X × List ℕ)) (s : X → List ℕ) (F : X → Type 0) → Reads p s F
      → (bytes : List ℕ) (x : X) (rest : List ℕ) → IsBytes bytes → fronted k p bytes ≡ Some (x, rest)
      → Took (λ (x : X). front k (s x)) F bytes x rest
  fronted_takes k p s F r (a ∷ b ∷ c ∷ d ∷ bytes) x rest h e =
      elim (chosen (eqb a 76 && eqb b 87 && eqb c 1 && eqb d k) (p bytes) None (Some (x, rest)) e) [
        | inr failing ↦ let bad = failing.1 in absurd cc
        | inl passing ↦
            let are = envelopes k a b c d passing.0 in
            let t = r.takes bytes x rest (λ i. h (suc (suc (suc (suc i))))) passing.1 in
            record {
              parts = rw (are.0, are.1, are.2, are.3) (ap (front k) t.parts);
              rest_fits = t.rest_fits;
              fits = t.fits;
            }
      ]
  fronted_takes k p s F r [] x rest h e = absurd cc
  fronted_takes k p s F r (a ∷ []) x rest h e = absurd cc
  fronted_takes k p s F r (a ∷ b ∷ []) x rest h e = absurd cc
  fronted_takes k p s F r (a ∷ b ∷ c ∷ []) x rest h e = absurd cc

  -- after the letters, the version and the number
  pub fronted_reads : (k : ℕ) (p : List ℕ → Option (X × List ℕ)) (s : X → List ℕ) (F : X → Type 0) → Reads p s F
      → Reads (fronted k p) (λ (x : X). front k (s x)) F
  fronted_reads k p s F r = record {
    takes = fronted_takes k p s F r;
    again = λ x rest fits. rw (same k) (r.again x rest fits);
  }

-- ---- lengths

pub length-ticket : (t : Ticket) → IsTicket t → length (ticket t) ≡ 52
length-ticket t f =
    simp (length-append, length-two, length-eight) (omega (arith, length-name_field t.name f.3))

pub length-watch : (w : Watch) → IsWatch w → length (front 9 (watch w)) ≡ 71
length-watch w f =
    simp (length-append, length-two, length-four, length-eight) (omega (arith, length-name_field w.ticket.name f.1.3))

pub length-notice : (n : Notice) → IsNotice n → length (front 10 (notice n)) ≡ 71
length-notice n f =
    simp (length-append, length-two, length-four, length-eight) (omega (arith, length-name_field n.ticket.name f.2.3))
