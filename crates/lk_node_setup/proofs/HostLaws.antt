-- The lines of the hosts, one after another.
use Rattle.std.proofs.Common.{◌≡◌, ℕ, suc, ◌+◌, ◌-◌, ◌^◌, ◌<◌, min, true, false, not, List, [], ◌∷◌, ◌++◌, length}
use Rattle.std.proofs.Common.{Option, Some, None, refl, sym, ◌∙◌, ap, arith, append_assoc}
use Rattle.std.proofs.lemmas.List.{append-nil, length-append}
use Rattle.std.proofs.lemmas.List.Elements.{filter-append}
use Rattle.std.proofs.lemmas.Fmt.{decimal_injective}
use Rattle.std.proofs.NetLemmas.Theorems.{IsIpText_unique}
use Rattle.std.specs.Fmt.{decimal}
use Rattle.std.specs.List.{slice_get}
use Rattle.std.specs.Net.Grammar.{IsIpText}
use Rattle.std.specs.declared.net.ip_addr.IpAddr.{IpAddr}
use Rattle.lk_auth.specs.KeyFiles.{IsLine, is_blank_or_comment, lines}
use Rattle.lk_auth.proofs.KeyFileLaws.{lines_more, lines_end}
use Rattle.lk_word_parsers.specs.Words.{HasNoSpace}
use Rattle.lk_word_parsers.proofs.Splits.{one_way, number_has_no_space, has_space}
use Rattle.lk_node_setup.specs.HostFiles.{SpellsHost, SpellEach, MayFollow, FollowOn, AreInOrder, host_lines}
use Rattle.lk_node_setup.specs.HostFiles.{SpellHosts, IsInvalidAfter, IsFirstInvalid}

abbrev pub Host : Type 0
Host = ℕ × IpAddr

-- ---- a line

-- a line with a space spells what its two words do
pub parted : (line node address : List ℕ) (host : Host) → HasNoSpace node → line ≡ node ++ 32 ∷ address
    → SpellsHost line host → (node ≡ decimal host.0) × IsIpText address host.1
parted line node address host free e s =
    let parts = one_way line node address (decimal host.0) s.address free e
    (number_has_no_space host.0 (omega (arith, s.node.1))) s.spelled in
    (parts.0, rw (parts.1) s.is_address)

-- a line without one spells no host
pub wordless : (line : List ℕ) (host : Host) → HasNoSpace line → SpellsHost line host → ⊥
wordless line host free s = has_space (decimal host.0) s.address (rw (sym s.spelled) free)

same_host : (n m : ℕ) (x y : IpAddr) → n ≡ m → x ≡ y → ◌≡◌ {A = Host} (n, x) (m, y)
same_host n m x y e f = cc (e, f)

-- and none spells two
pub one_host : (line : List ℕ) (a b : Host) → SpellsHost line a → SpellsHost line b → a ≡ b
one_host line a b s t =
    let small : a.0 < 2 ^ 64 = omega (arith, s.node.1) in
    let parts : (decimal a.0 ≡ decimal b.0) × IsIpText s.address b.1 =
    parted line (decimal a.0) s.address b (number_has_no_space a.0 small) s.spelled t in
    let nodes : a.0 ≡ b.0 = decimal_injective a.0 b.0 small (omega (arith, t.node.1)) parts.0 in
    let addresses : a.1 ≡ b.1 = IsIpText_unique s.address a.1 b.1 s.is_address parts.1 in
    same_host a.0 b.0 a.1 b.1 nodes addresses

-- ---- one more host

each_more : (ls : List (List ℕ)) (hosts : List Host) (line : List ℕ) (host : Host) → SpellEach ls hosts
    → SpellsHost line host → SpellEach (ls ++ line ∷ []) (hosts ++ host ∷ [])
each_more [] [] line host each spells = (spells, tt)
each_more [] (h ∷ hosts) line host each spells = absurd each
each_more (l ∷ ls) [] line host each spells = absurd each
each_more (l ∷ ls) (h ∷ hosts) line host each spells = (each.0, each_more ls hosts line host each.1 spells)

-- the last of some hosts, or the one before them
abbrev last_or : Option Host → List Host → Option Host
last_or before [] = before
last_or before (h ∷ hosts) = last_or (Some h) hosts

follow_more : (before : Option Host) (hosts : List Host) (host : Host) → FollowOn before hosts
    → MayFollow (last_or before hosts) host → FollowOn before (hosts ++ host ∷ [])
follow_more before [] host follow may = (may, tt)
follow_more before (h ∷ hosts) host follow may = (follow.0, follow_more (Some h) hosts host follow.1 may)

follow_last : (before : Option Host) (hosts : List Host) (host : Host) → FollowOn before (hosts ++ host ∷ [])
    → MayFollow (last_or before hosts) host
follow_last before [] host follow = follow.0
follow_last before (h ∷ hosts) host follow = follow_last (Some h) hosts host follow.1

last_is : (h : Host) (hosts : List Host) → slice_get (h ∷ hosts) (length hosts) ≡ last_or (Some h) hosts
last_is h [] = refl
last_is h (g ∷ hosts) = last_is g hosts

last_of : (hosts : List Host) → slice_get hosts (length hosts - 1) ≡ last_or None hosts
last_of [] = refl
last_of (h ∷ hosts) =
    let e : length (h ∷ hosts) - 1 ≡ length hosts = omega arith in rw e (last_is h hosts)

-- a line with a host is added to the lines
pub spell_more : (ls : List (List ℕ)) (hosts : List Host) (line : List ℕ) (host : Host)
    → is_blank_or_comment line ≡ false → SpellsHost line host → MayFollow (slice_get hosts (length hosts - 1)) host
    → SpellHosts ls hosts → SpellHosts (ls ++ line ∷ []) (hosts ++ host ∷ [])
spell_more ls hosts line host some spells may are = record {
  each = rw (filter-append (λ l. not (is_blank_or_comment l)) ls (line ∷ []), some)
      (each_more (host_lines ls) hosts line host are.each spells);
  in_order = follow_more None hosts host are.in_order (rw (sym (last_of hosts)) may);
}

-- and so is one without
pub spell_same : (ls : List (List ℕ)) (hosts : List Host) (line : List ℕ) → is_blank_or_comment line ≡ true
    → SpellHosts ls hosts → SpellHosts (ls ++ line ∷ []) hosts
spell_same ls hosts line blank are = record {
  each = rw (filter-append (λ l. not (is_blank_or_comment l)) ls (line ∷ []), blank, append-nil (host_lines ls))
      are.each;
  in_order = are.in_order;
}

-- what may not follow the last host is in no order after them
pub out_of_order : (hosts : List Host) (host : Host)
    → (MayFollow (slice_get hosts (length hosts - 1)) host → ⊥) → AreInOrder (hosts ++ host ∷ []) → ⊥
out_of_order hosts host may_not order = may_not (rw (last_of hosts) (follow_last None hosts host order))

pub no_follower : (hosts : List Host) (line : List ℕ) (host : Host) (last : Option Host)
    → is_blank_or_comment line ≡ false → SpellsHost line host → last ≡ slice_get hosts (length hosts - 1)
    → (MayFollow last host → ⊥) → IsInvalidAfter hosts line
no_follower hosts line host last some spells is may_not = record {
  some = some;
  no_host = λ other s order.
      out_of_order hosts other (λ may. may_not (rw (is, one_host line host other spells s) may)) order;
}

-- ---- line by line

-- these hosts are spelled by the lines before the rest of a text, and the next line has this number
pub record ReadsSoFar (text : List ℕ) (hosts : List Host) (rest : List ℕ) (number : ℕ) : Type 0 where
  pub front : List (List ℕ)
  pub are : lines text ≡ front ++ lines rest
  pub spelled : SpellHosts front hosts
  pub numbered : number ≡ min (suc (length front)) 4294967295

pub reads_nothing : (text : List ℕ) → ReadsSoFar text [] text 1
reads_nothing text = record {
  front = [];
  are = refl;
  spelled = record { each = tt; in_order = tt };
  numbered = refl;
}

-- a further line, and what stands behind it
pub reads_line : (text : List ℕ) (hosts more : List Host) (rest line behind : List ℕ) (number next : ℕ) → IsLine line
    → rest ≡ line ++ 10 ∷ behind → next ≡ min (number + 1) 4294967295
    → ((ls : List (List ℕ)) → SpellHosts ls hosts → SpellHosts (ls ++ line ∷ []) more)
    → ReadsSoFar text hosts rest number → ReadsSoFar text more behind next
reads_line text hosts more rest line behind number next free e counts adds so_far = record {
  front = so_far.front ++ line ∷ [];
  are = so_far.are ∙ ap (λ (ls : List (List ℕ)). so_far.front ++ ls) (ap lines e ∙ lines_more line behind free)
      ∙ sym (append_assoc so_far.front (line ∷ []) (lines behind));
  spelled = adds so_far.front so_far.spelled;
  numbered = rw (length-append so_far.front (line ∷ [])) (omega (arith, counts, so_far.numbered));
}

pub invalid_line : (text : List ℕ) (hosts : List Host) (rest line behind : List ℕ) (number : ℕ) → IsLine line
    → rest ≡ line ++ 10 ∷ behind → IsInvalidAfter hosts line → ReadsSoFar text hosts rest number
    → IsFirstInvalid text number
invalid_line text hosts rest line behind number free e invalid so_far = record {
  front = so_far.front;
  line = line;
  behind = lines behind;
  are = so_far.are ∙ ap (λ (ls : List (List ℕ)). so_far.front ++ ls) (ap lines e ∙ lines_more line behind free);
  hosts = hosts;
  spelled = so_far.spelled;
  invalid = invalid;
  numbered = so_far.numbered;
}

-- the last line
pub reads_last : (text : List ℕ) (hosts more : List Host) (rest : List ℕ) (number : ℕ) → IsLine rest
    → ((ls : List (List ℕ)) → SpellHosts ls hosts → SpellHosts (ls ++ rest ∷ []) more)
    → ReadsSoFar text hosts rest number → SpellHosts (lines text) more
reads_last text hosts more rest number free adds so_far =
    rw (so_far.are ∙ ap (λ (ls : List (List ℕ)). so_far.front ++ ls) (lines_end rest free))
    (adds so_far.front so_far.spelled)

pub invalid_last : (text : List ℕ) (hosts : List Host) (rest : List ℕ) (number : ℕ) → IsLine rest
    → IsInvalidAfter hosts rest → ReadsSoFar text hosts rest number → IsFirstInvalid text number
invalid_last text hosts rest number free invalid so_far = record {
  front = so_far.front;
  line = rest;
  behind = [];
  are = so_far.are ∙ ap (λ (ls : List (List ℕ)). so_far.front ++ ls) (lines_end rest free);
  hosts = hosts;
  spelled = so_far.spelled;
  invalid = invalid;
  numbered = so_far.numbered;
}
