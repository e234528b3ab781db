-- The places of a client that asks several, one after another.
use Rattle.std.proofs.Common.{◌≡◌, ◌++◌, List, ℕ, true, false, Option, Some, None, [], ◌∷◌, take, refl, subst, sym}
use Rattle.std.specs.Prelude.{is_some, slice_get}
use Rattle.std.specs.declared.net.socket_addr.SocketAddr.{SocketAddr}
use Rattle.lk_client.specs.Questions.{Asker, Tries, TriesInVain, TriesUntil}
use Rattle.lk_client.specs.declared.destination.Place.{Place}
use Rattle.lk_client.specs.declared.question.Question.{Question}
use Rattle.lk_client.specs.declared.reply.Reply.{Reply}

module _ {S : Type 0} {sent : S → List (SocketAddr × List ℕ)} {failures : S → ℕ}
    {next : S → Option (SocketAddr × List ℕ)} {q : Question} {most : ℕ} {bytes : List ℕ} where
  -- a place that is asked by equal bytes
  by_bytes : {said : List ℕ} {place : Place} {told : Option Reply} {old new : Asker S} → said ≡ bytes
      → Tries sent failures next q most place said told old new
      → Tries sent failures next q most place bytes told old new
  by_bytes {place = place} {told = told} {old = old} {new = new} same =
      subst (λ (b : List ℕ). Tries sent failures next q most place b told old new) same

  -- one place more is added at the end
  vain_more : (places : List Place) (place : Place) (old mid new : Asker S)
      → TriesInVain sent failures next q most places bytes old mid
      → Tries sent failures next q most place bytes None mid new
      → TriesInVain sent failures next q most (places ++ place ∷ []) bytes old new
  vain_more [] place old mid new passed more =
      (new, subst (λ (s : Asker S). Tries sent failures next q most place bytes None s new) passed more, refl)
  vain_more (first ∷ places) place old mid new passed more =
      (passed.0, passed.1, vain_more places place passed.0 mid new passed.2 more)

  -- one more that told nothing
  pub tries_more : {said : List ℕ} {further : List Place} {place : Place} {mid new : Asker S} (places : List Place)
      (old : Asker S) (told : Option Reply) → is_some told ≡ false → said ≡ bytes
      → further ≡ places ++ place ∷ [] → TriesInVain sent failures next q most places bytes old mid
      → Tries sent failures next q most place said told mid new
      → TriesInVain sent failures next q most further bytes old new
  tries_more {place = place} {mid = mid} {new = new} places old None none same is passed more =
      subst (λ (ps : List Place). TriesInVain sent failures next q most ps bytes old new) (sym is)
      (vain_more places place old mid new passed (by_bytes same more))
  tries_more places old (Some reply) none same is passed more = absurd (cc none)

  -- one that told something
  pub tries_told : {said : List ℕ} {place : Place} {mid new : Asker S} (places : List Place) (count : ℕ) (old : Asker S)
      (told : Option Reply) → is_some told ≡ true → said ≡ bytes
      → slice_get places count ≡ Some place → TriesInVain sent failures next q most (take count places) bytes old mid
      → Tries sent failures next q most place said told mid new
      → TriesUntil sent failures next q most places bytes told old new
  tries_told places count old None some same at passed more = absurd (cc some)
  tries_told {place = place} {mid = mid} places count old (Some reply) some same at passed more =
      (count, place, at, mid, passed, by_bytes same more)
