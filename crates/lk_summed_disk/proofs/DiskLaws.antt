-- What the calls of the device below leave of the decoded disks, and of the places.
use Rattle.std.proofs.Common.{◌≡◌, ◌∙◌, ℕ, zero, suc, ◌+◌, ◌≤◌, eqb, Bool, true, false, List, [], ◌∷◌}
use Rattle.std.proofs.Common.{◌++◌}
use Rattle.std.proofs.Common.{length, take, drop, refl, sym, ap, subst, arith, inl, inr, ◌⊎◌, append_assoc, Option}
use Rattle.std.proofs.Common.{Some}
use Rattle.std.proofs.Common.{None, length-append, length-take}
use Rattle.std.proofs.Math.Seq.{take-length}
use Rattle.std.specs.Str.{bytes_eq}
use Rattle.std.proofs.lemmas.Bool.{cases_Bool, true≢false, false≢true, eqb-true}
use Rattle.std.proofs.lemmas.List.{take_at, take-take, take_all, take-append-drop, append-nil}
use Rattle.std.proofs.lemmas.List.{append_cancel_left, length-take-le}
use Rattle.std.specs.Prelude.{if◌then◌else◌, ⊤}
use Rattle.lk_disk.specs.Disk.{Disk, contents, appended, fully_synced, cut_to, AppendsSome, CutShort}
use Rattle.lk_disk.specs.declared.device.Side.{Side}
use Rattle.lk_disk.specs.declared.device.Side.TheVariants.{A, B}
use Rattle.lk_summed_disk.specs.SummedValue.{below_at, disk_at, over}
use Rattle.lk_summed_disk.specs.Frames.{HasSums}
use Rattle.lk_summed_disk.specs.Readers.{Reader, fresh, plain, marked, framed, step, read, text, IsSound}
use Rattle.lk_summed_disk.specs.Readers.{decoded}
use Rattle.lk_summed_disk.specs.Places.{reader, IsPlace, Holds, Adds}
use Rattle.lk_summed_disk.specs.declared.place.Form.{Form}
use Rattle.lk_summed_disk.specs.declared.place.Form.TheVariants.{Empty, Plain, Summed}
use Rattle.lk_summed_disk.specs.declared.place.Place.{Place}
use Rattle.lk_summed_disk.proofs.FrameLaws.{nil_torn}
use Rattle.lk_summed_disk.specs.Frames.{magic, seed, digest, piece_in, is_frame}
use Rattle.lk_summed_disk.proofs.ReaderLaws.{read-append, text-append, text-take, sound_front, step_other}
use Rattle.lk_summed_disk.proofs.ParseLaws.{empty_place}
use Rattle.lk_summed_disk.proofs.PlaceLaws.{text_plain, read_plain, reads_on, place_appended, place_cut}

-- ---- decoded disks

pub decoded_contents : (s : Side) (d : Disk) → contents (decoded s d) ≡ text (fresh s) (contents d)
decoded_contents s d = sym (text-append (fresh s) d.synced d.unsynced)

decoded_more : (s : Side) (d : Disk) (bytes : List ℕ)
    → decoded s (appended d bytes) ≡ appended (decoded s d) (text (read (fresh s) (contents d)) bytes)
decoded_more s d bytes =
    let more : text (read (fresh s) d.synced) (d.unsynced ++ bytes)
    ≡ text (read (fresh s) d.synced) d.unsynced ++ text (read (fresh s) (contents d)) bytes =
    text-append (read (fresh s) d.synced) d.unsynced bytes
    ∙ ap (λ (r : Reader). text (read (fresh s) d.synced) d.unsynced ++ text r bytes)
    (sym (read-append (fresh s) d.synced d.unsynced)) in
    (λ i. record { synced = text (fresh s) d.synced; unsynced = more i })

appended_contents : (d : Disk) (bytes : List ℕ) → contents (appended d bytes) ≡ contents d ++ bytes
appended_contents d bytes = sym (append_assoc d.synced d.unsynced bytes)

-- ---- an append

reader_sound : (s : Side) (f : Form) → IsSound (reader s f)
reader_sound s Empty = tt
reader_sound s Plain = tt
reader_sound s (Summed chain) = nil_torn

pub append_decoded : (s : Side) (old new : Disk) (piece bytes : List ℕ) (p : Place) (after : Form)
    → Holds s (contents old) (Some p) → p.is_whole ≡ true → Adds (reader s p.form) piece bytes (reader s after)
    → new ≡ appended old bytes → decoded s new ≡ appended (decoded s old) piece
append_decoded s old new piece bytes p after holds whole adds is =
    let on = reads_on s (contents old) piece bytes p after holds.known whole adds in
    ap (decoded s) is ∙ decoded_more s old bytes ∙ ap (appended (decoded s old)) on.adds

pub append_holds : (s : Side) (old new : Disk) (piece bytes : List ℕ) (p q : Place)
    → Holds s (contents old) (Some p) → p.is_whole ≡ true → Adds (reader s p.form) piece bytes (reader s q.form)
    → q.end ≡ p.end + length bytes → q.size ≡ p.size + length piece → new ≡ appended old bytes
    → Holds s (contents new) (Some q)
append_holds s old new piece bytes p q holds whole adds end size is =
    let on = reads_on s (contents old) piece bytes p q.form holds.known whole adds in
    let are : contents new ≡ contents old ++ bytes = ap contents is ∙ appended_contents old bytes in
    subst (λ (l : List ℕ). Holds s l (Some q)) (sym are) (record {
      sound = subst IsSound (sym (read-append (fresh s) (contents old) bytes ∙ on.reads)) (reader_sound s q.form);
      known = place_appended s (contents old) piece bytes p q holds.known whole adds end size;
    })

pub append_some : (s : Side) (old new : Disk) (piece bytes : List ℕ) (p : Place) (after : Form)
    → Holds s (contents old) (Some p) → p.is_whole ≡ true → Adds (reader s p.form) piece bytes (reader s after)
    → AppendsSome bytes old new → AppendsSome piece (decoded s old) (decoded s new)
append_some s old new piece bytes p after holds whole adds some =
    let on = reads_on s (contents old) piece bytes p after holds.known whole adds in
    let front = on.front some.0 in (
      front.0,
      ap (decoded s) some.1 ∙ decoded_more s old (take some.0 bytes) ∙ ap (appended (decoded s old)) front.1,
    )

pub append_sound : (s : Side) (old new : Disk) (piece bytes : List ℕ) (p : Place) (after : Form)
    → Holds s (contents old) (Some p) → p.is_whole ≡ true → Adds (reader s p.form) piece bytes (reader s after)
    → AppendsSome bytes old new → Holds s (contents new) None
append_sound s old new piece bytes p after holds whole adds some =
    let on = reads_on s (contents old) piece bytes p after holds.known whole adds in
    let are : contents new ≡ contents old ++ take some.0 bytes =
    ap contents some.1 ∙ appended_contents old (take some.0 bytes) in
    record {
      sound =
          subst IsSound (sym (ap (read (fresh s)) are ∙ read-append (fresh s) (contents old) (take some.0 bytes)))
          (on.sound some.0);
      known = tt;
    }

-- ---- a sync

synced_contents : (d : Disk) → contents (fully_synced d) ≡ contents d
synced_contents d = append-nil (contents d)

pub sync_holds : (s : Side) (old new : Disk) (p : Place) → Holds s (contents old) (Some p) → new ≡ fully_synced old
    → Holds s (contents new) (Some p)
sync_holds s old new p holds is =
    subst (λ (l : List ℕ). Holds s l (Some p)) (sym (ap contents is ∙ synced_contents old)) holds

pub sync_decoded : (s : Side) (old new : Disk) → new ≡ fully_synced old → decoded s new ≡ fully_synced (decoded s old)
sync_decoded s old new is =
    ap (decoded s) is ∙ (λ i. record { synced = sym (decoded_contents s old) i; unsynced = [] })

-- all text is synced
settled : (s : Side) (bytes : List ℕ) (p : Place) (d : Disk) (m : ℕ) → IsPlace s bytes p → contents d ≡ take m bytes
    → p.end ≤ m → p.end ≤ length d.synced → m ≤ length bytes
    → decoded s d ≡ record { synced = text (fresh s) bytes; unsynced = [] }
settled s bytes p d m is are long synced within =
    let count = length d.synced in
    let fits : count ≤ m = omega (arith, ap length are, length-append d.synced d.unsynced, length-take m bytes) in
    let front : d.synced ≡ take count bytes =
    sym (take_at d.synced d.unsynced count refl) ∙ ap (take count) are ∙ take-take count m bytes fits in
    let first : text (fresh s) d.synced ≡ text (fresh s) bytes = ap (text (fresh s)) front ∙ is.quiet count synced in
    let all : contents (decoded s d) ≡ text (fresh s) bytes =
    decoded_contents s d ∙ ap (text (fresh s)) are ∙ is.quiet m long in
    let rest : text (read (fresh s) d.synced) d.unsynced ≡ [] =
    append_cancel_left (text (fresh s) bytes) (text (read (fresh s) d.synced) d.unsynced) []
    (ap (λ (l : List ℕ). l ++ text (read (fresh s) d.synced) d.unsynced) (sym first) ∙ all
    ∙ sym (append-nil (text (fresh s) bytes))) in
    (λ i. record { synced = first i; unsynced = rest i })

as_synced : (s : Side) (old : Disk) → record { synced = text (fresh s) (contents old); unsynced = [] }
    ≡ fully_synced (decoded s old)
as_synced s old = (λ i. record { synced = sym (decoded_contents s old) i; unsynced = [] })

cut_contents : (n : ℕ) (d : Disk) → contents (cut_to n d) ≡ take n (contents d)
cut_contents n d = append-nil (take n (contents d))

-- the torn end was cut off
pub torn_cut_decoded : (s : Side) (old mid new : Disk) (p : Place) → Holds s (contents old) (Some p)
    → mid ≡ fully_synced old → new ≡ cut_to p.end mid → decoded s new ≡ fully_synced (decoded s old)
torn_cut_decoded s old mid new p holds is cut =
    let are : contents mid ≡ contents old = ap contents is ∙ synced_contents old in
    let left : contents new ≡ take p.end (contents old) =
    ap contents cut ∙ cut_contents p.end mid ∙ ap (take p.end) are in
    let synced : new.synced ≡ take p.end (contents old) = ap (λ (d : Disk). d.synced) cut ∙ ap (take p.end) are in
    let long : p.end ≤ length new.synced =
    omega (arith, ap length synced, length-take p.end (contents old), holds.known.within) in
    settled s (contents old) p new p.end holds.known left (omega arith) long holds.known.within ∙ as_synced s old

pub torn_cut_holds : (s : Side) (old mid new : Disk) (p q : Place) → Holds s (contents old) (Some p)
    → mid ≡ fully_synced old → new ≡ cut_to p.end mid → q ≡ record p { is_whole = true }
    → Holds s (contents new) (Some q)
torn_cut_holds s old mid new p q holds is cut whole =
    let left : contents new ≡ take p.end (contents old) =
    ap contents cut ∙ cut_contents p.end mid ∙ ap (take p.end) (ap contents is ∙ synced_contents old) in
    subst (λ (l : List ℕ). Holds s l (Some q)) (sym left) (record {
      sound = sound_front (fresh s) (contents old) p.end holds.sound;
      known = place_cut s (contents old) p q p.end holds.known (omega arith) holds.known.within
          (ap (λ (x : Place). x.form) whole) (ap (λ (x : Place). x.end) whole) (ap (λ (x : Place). x.size) whole)
          (λ _. refl);
    })

-- the cut failed
cut_left : (p : Place) (old mid new : Disk) → mid ≡ fully_synced old → CutShort p.end mid new
    → contents new ≡ take (length (contents new)) (contents old)
cut_left p old mid new is short =
    short.front ∙ ap (take (length (contents new))) (ap contents is ∙ synced_contents old)

cut_synced : (s : Side) (p : Place) (old mid new : Disk) → IsPlace s (contents old) p → mid ≡ fully_synced old
    → CutShort p.end mid new → p.end ≤ length new.synced
cut_synced s p old mid new is same short =
    let all : mid.synced ≡ contents old = ap (λ (d : Disk). d.synced) same in
    omega (arith, short.kept, ap length all, is.within)

pub torn_kept_decoded : (s : Side) (old mid new : Disk) (p : Place) → Holds s (contents old) (Some p)
    → mid ≡ fully_synced old → CutShort p.end mid new → decoded s new ≡ fully_synced (decoded s old)
torn_kept_decoded s old mid new p holds is short =
    let left = cut_left p old mid new is short in
    let synced = cut_synced s p old mid new holds.known is short in
    let both = length-append new.synced new.unsynced in
    settled s (contents old) p new (length (contents new)) holds.known left (omega (arith, synced, both)) synced
    (omega (arith, ap length left, length-take (length (contents new)) (contents old)))
    ∙ as_synced s old

pub torn_kept_holds : (s : Side) (old mid new : Disk) (p : Place) → Holds s (contents old) (Some p)
    → mid ≡ fully_synced old → CutShort p.end mid new → p.is_whole ≡ false → Holds s (contents new) (Some p)
torn_kept_holds s old mid new p holds is short torn =
    let left = cut_left p old mid new is short in
    let synced = cut_synced s p old mid new holds.known is short in
    let both = length-append new.synced new.unsynced in
    subst (λ (l : List ℕ). Holds s l (Some p)) (sym left) (record {
      sound = sound_front (fresh s) (contents old) (length (contents new)) holds.sound;
      known = place_cut s (contents old) p p (length (contents new)) holds.known (omega (arith, synced, both))
          (omega (arith, ap length left, length-take (length (contents new)) (contents old)))
          refl refl refl (λ whole. absurd (true≢false (sym whole ∙ torn)));
    })

-- ---- a cut to nothing

pub clear_holds : (s : Side) (old new : Disk) (p : Place) → new ≡ cut_to 0 old → p.form ≡ Empty → p.end ≡ 0
    → p.size ≡ 0 → Holds s (contents new) (Some p)
clear_holds s old new p is form end size =
    subst (λ (l : List ℕ). Holds s l (Some p)) (sym (ap contents is)) (empty_place s p form end size)

pub clear_decoded : (s : Side) (old new : Disk) → new ≡ cut_to 0 old → decoded s new ≡ cut_to 0 (decoded s old)
clear_decoded s old new is = ap (decoded s) is

pub cut_sound : (s : Side) (n : ℕ) (old new : Disk) → IsSound (read (fresh s) (contents old)) → CutShort n old new
    → Holds s (contents new) None
cut_sound s n old new sound short =
    record {
      sound = subst (λ (l : List ℕ). IsSound (read (fresh s) l)) (sym short.front)
          (sound_front (fresh s) (contents old) (length (contents new)) sound);
      known = tt;
    }

pub clear_short : (s : Side) (old new : Disk) → CutShort 0 old new → CutShort 0 (decoded s old) (decoded s new)
clear_short s old new short =
    let m = length (contents new) in
    let now : contents (decoded s new) ≡ text (fresh s) (take m (contents old)) =
    decoded_contents s new ∙ ap (text (fresh s)) short.front in
    record {
      front = now ∙ text-take (fresh s) m (contents old)
          ∙ (λ i. take (length (sym now i)) (sym (decoded_contents s old) i));
      kept = omega arith;
    }

-- ---- a file without sums

-- the bytes begin with a zero, if there are any
abbrev pub IsZeroFirst : List ℕ → Type 0
IsZeroFirst [] = ⊤
IsZeroFirst (b ∷ bytes) = b ≡ 0

zero_text : (s : Side) (bytes : List ℕ) → IsZeroFirst bytes → text (fresh s) bytes ≡ bytes
zero_text s [] is = refl
zero_text s (b ∷ bytes) is =
    ap (λ (x : ℕ). text (fresh s) (x ∷ bytes)) is ∙ ap (λ (l : List ℕ). 0 ∷ l) (text_plain bytes)
    ∙ ap (λ (x : ℕ). x ∷ bytes) (sym is)

zero_read : (s : Side) (bytes : List ℕ) → IsZeroFirst bytes → 1 ≤ length bytes → read (fresh s) bytes ≡ plain
zero_read s [] is some = absurd (omega (arith, some))
zero_read s (b ∷ bytes) is some = ap (λ (x : ℕ). read (fresh s) (x ∷ bytes)) is ∙ read_plain bytes

zero_front : (p q : List ℕ) → IsZeroFirst (p ++ q) → IsZeroFirst p
zero_front [] q is = tt
zero_front (b ∷ p) q is = is

zero_take : (n : ℕ) (bytes : List ℕ) → IsZeroFirst bytes → IsZeroFirst (take n bytes)
zero_take zero bytes is = tt
zero_take (suc n) [] is = tt
zero_take (suc n) (b ∷ bytes) is = is

-- its disk is as it was decoded
pub zero_disk : (s : Side) (d : Disk) → IsZeroFirst (contents d) → decoded s d ≡ d
zero_disk s d is =
    let first : text (fresh s) d.synced ≡ d.synced = zero_text s d.synced (zero_front d.synced d.unsynced is) in
    let rest : text (read (fresh s) d.synced) d.unsynced ≡ d.unsynced =
    append_cancel_left d.synced (text (read (fresh s) d.synced) d.unsynced) d.unsynced
    (ap (λ (l : List ℕ). l ++ text (read (fresh s) d.synced) d.unsynced) (sym first)
    ∙ decoded_contents s d ∙ zero_text s (contents d) is) in
    (λ i. record { synced = first i; unsynced = rest i })

-- the reader does not read a file without sums
abbrev is_marked : Reader → Bool
is_marked (fresh s) = false
is_marked plain = false
is_marked (marked s bytes) = true
is_marked (framed chain bytes) = true

is_marked-if : (b : Bool) (x y : Reader) → is_marked x ≡ true → is_marked y ≡ true
    → is_marked (if b then x else y) ≡ true
is_marked-if true x y a b = a
is_marked-if false x y a b = b

marked_step : (r : Reader) (b : ℕ) → is_marked r ≡ true → is_marked (step r b) ≡ true
marked_step (fresh s) b is = absurd (false≢true is)
marked_step plain b is = absurd (false≢true is)
marked_step (marked s bytes) b is =
    is_marked-if (bytes_eq (bytes ++ b ∷ []) (magic s)) (framed (seed s) []) (marked s (bytes ++ b ∷ [])) refl refl
marked_step (framed chain bytes) b is =
    is_marked-if (is_frame chain (bytes ++ b ∷ [])) (framed (digest chain (piece_in (bytes ++ b ∷ []))) [])
    (framed chain (bytes ++ b ∷ [])) refl refl

marked_read : (r : Reader) (bytes : List ℕ) → is_marked r ≡ true → is_marked (read r bytes) ≡ true
marked_read r [] is = is
marked_read r (b ∷ bytes) is = marked_read (step r b) bytes (marked_step r b is)

zero_or_marked : (s : Side) (b : ℕ) → (b ≡ 0) ⊎ (is_marked (step (fresh s) b) ≡ true)
zero_or_marked s b = elim (cases_Bool (eqb b 0)) [
  | inl zero_is ↦ inl (eqb-true b 0 zero_is)
  | inr other ↦ inr (ap is_marked (step_other s b other))
]

plain_zero : (s : Side) (bytes : List ℕ) → read (fresh s) bytes ≡ plain → IsZeroFirst bytes
plain_zero s [] is = tt
plain_zero s (b ∷ bytes) is = elim (zero_or_marked s b) [
  | inl none ↦ none
  | inr marks ↦
      absurd (true≢false (sym (marked_read (step (fresh s) b) bytes marks) ∙ ap is_marked is))
]

-- a file of that form begins with a zero
pub place_zero : (s : Side) (bytes : List ℕ) (p : Place) → IsPlace s bytes p → p.form ≡ Plain → IsZeroFirst bytes
place_zero s bytes p is form =
    plain_zero s bytes
    (ap (read (fresh s)) (sym (take-append-drop p.end bytes))
    ∙ read-append (fresh s) (take p.end bytes) (drop p.end bytes)
    ∙ ap (λ (r : Reader). read r (drop p.end bytes)) (is.reads ∙ ap (reader s) form)
    ∙ read_plain (drop p.end bytes))

pub short_zero : (n : ℕ) (old new : Disk) → IsZeroFirst (contents old) → CutShort n old new
    → IsZeroFirst (contents new)
short_zero n old new is short =
    subst IsZeroFirst (sym short.front) (zero_take (length (contents new)) (contents old) is)

pub truncate_holds : (s : Side) (old new : Disk) (n : ℕ) (p : Place) → IsZeroFirst (contents old) → 1 ≤ n
    → n ≤ length (contents old) → new ≡ cut_to n old → p.form ≡ Plain → p.end ≡ n → p.size ≡ n
    → Holds s (contents new) (Some p)
truncate_holds s old new n p is some within cut form end size =
    let left : contents new ≡ take n (contents old) = ap contents cut ∙ cut_contents n old in
    let first = zero_take n (contents old) is in
    let count : length (take n (contents old)) ≡ n = length-take-le n (contents old) within in
    let reads = zero_read s (take n (contents old)) first (omega (arith, count, some)) in
    subst (λ (l : List ℕ). Holds s l (Some p)) (sym left) (record {
      sound = subst IsSound (sym reads) tt;
      known = record {
        within = omega (arith, end, count);
        reads = ap (read (fresh s)) (take_all p.end (take n (contents old)) (omega (arith, end, count))) ∙ reads
            ∙ sym (ap (reader s) form);
        quiet = λ m long.
            ap (text (fresh s)) (take_all m (take n (contents old)) (omega (arith, end, count, long)));
        size = size ∙ sym count ∙ ap length (sym (zero_text s (take n (contents old)) first));
        whole = λ _. end ∙ sym count;
      };
    })

pub cut_zero : (n : ℕ) (d : Disk) → IsZeroFirst (contents d) → IsZeroFirst (contents (cut_to n d))
cut_zero n d is = subst IsZeroFirst (sym (cut_contents n d)) (zero_take n (contents d) is)

-- ---- a call that changes nothing

pub appends_none : (piece : List ℕ) (d : Disk) → AppendsSome piece d d
appends_none piece d = (0, (λ i. record { synced = d.synced; unsynced = sym (append-nil d.unsynced) i }))

pub cuts_none : (n : ℕ) (d : Disk) → CutShort n d d
cuts_none n d = record { front = sym (take-length (contents d)); kept = omega arith }

pub holds_none : (s : Side) (bytes : List ℕ) (p : Option Place) → Holds s bytes p → Holds s bytes None
holds_none s bytes p holds = record { sound = holds.sound; known = tt }

-- ---- what steps of a file without sums leave

pub plain_decoded : (s : Side) (d : Disk) (p : Place) → Holds s (contents d) (Some p) → p.form ≡ Plain
    → decoded s d ≡ d
plain_decoded s d p holds form = zero_disk s d (place_zero s (contents d) p holds.known form)

pub plain_short : (s : Side) (old new : Disk) (n : ℕ) (p : Place) → Holds s (contents old) (Some p) → p.form ≡ Plain
    → CutShort n old new → CutShort n (decoded s old) (decoded s new)
plain_short s old new n p holds form short =
    let was = place_zero s (contents old) p holds.known form in
    let now = zero_disk s new (short_zero n old new was short) in
    subst (λ (d : Disk). CutShort n d (decoded s new)) (sym (zero_disk s old was))
    (subst (λ (d : Disk). CutShort n old d) (sym now) short)

pub plain_cut : (s : Side) (old new : Disk) (n : ℕ) (p : Place) → Holds s (contents old) (Some p) → p.form ≡ Plain
    → new ≡ cut_to n old → decoded s new ≡ cut_to n (decoded s old)
plain_cut s old new n p holds form cut =
    let was = place_zero s (contents old) p holds.known form in
    ap (decoded s) cut ∙ zero_disk s (cut_to n old) (cut_zero n old was) ∙ ap (cut_to n) (sym (zero_disk s old was))

pub plain_length : (s : Side) (d : Disk) (p : Place) → Holds s (contents d) (Some p) → p.form ≡ Plain
    → length (contents (decoded s d)) ≡ length (contents d)
plain_length s d p holds form = ap (λ (e : Disk). length (contents e)) (plain_decoded s d p holds form)

pub plain_holds : (s : Side) (old new : Disk) (n : ℕ) (p q : Place) → Holds s (contents old) (Some p)
    → p.form ≡ Plain → 1 ≤ n → n ≤ length (contents old) → new ≡ cut_to n old → q.form ≡ Plain → q.end ≡ n
    → q.size ≡ n → Holds s (contents new) (Some q)
plain_holds s old new n p q holds form some within cut same ends sized =
    truncate_holds s old new n q (place_zero s (contents old) p holds.known form) some within cut same ends sized

-- ---- what the device says of its disks

pub below_over : (disks : Side → Disk) (sums : Bool) (failures : ℕ) (s : Side)
    → below_at (over disks sums failures) s ≡ disks s
below_over disks sums failures A = refl
below_over disks sums failures B = refl

pub disk_over : (disks : Side → Disk) (sums : Bool) (failures : ℕ) (s : Side)
    → disk_at (over disks sums failures) s ≡ decoded s (disks s)
disk_over disks sums failures s = ap (decoded s) (below_over disks sums failures s)

pub place_length : (s : Side) (d : Disk) (p : Place) → Holds s (contents d) (Some p)
    → p.size ≡ length (contents (decoded s d))
place_length s d p holds = holds.known.size ∙ ap length (sym (decoded_contents s d))

-- ---- an empty file begins with sums

abbrev is_fresh : Reader → Bool
is_fresh (fresh s) = true
is_fresh plain = false
is_fresh (marked s bytes) = false
is_fresh (framed chain bytes) = false

form_of : (s : Side) (f : Form) → fresh s ≡ reader s f → f ≡ Empty
form_of s Empty is = refl
form_of s Plain is = absurd (true≢false (ap is_fresh is))
form_of s (Summed chain) is = absurd (true≢false (ap is_fresh is))

empty_form : (s : Side) (bytes : List ℕ) (p : Place) → IsPlace s bytes p → bytes ≡ [] → p.form ≡ Empty
empty_form s bytes p is none =
    form_of s p.form
    (sym (ap (read (fresh s)) (ap (take p.end) none ∙ take_all p.end [] (omega arith))) ∙ is.reads)

pub append_begins : (s : Side) (old new : Disk) (bytes : List ℕ) (p : Place) → Holds s (contents old) (Some p)
    → contents old ≡ [] → new ≡ appended old bytes → (p.form ≡ Empty → HasSums s bytes) → HasSums s (contents new)
append_begins s old new bytes p holds none is begins =
    let begun = begins (empty_form s (contents old) p holds.known none) in (
      begun.0,
      ap contents is ∙ appended_contents old bytes ∙ ap (λ (l : List ℕ). l ++ bytes) none ∙ begun.1,
    )
