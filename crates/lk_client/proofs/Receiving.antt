-- The receives of a client, one after another.
use Rattle.std.proofs.Common.{◌≡◌, ◌+◌, ◌<◌, List, ℕ, true, false, Option, Some, None, subst}
use Rattle.std.specs.Prelude.{is_some}
use Rattle.std.specs.declared.net.socket_addr.SocketAddr.{SocketAddr}
use Rattle.lk_transport.specs.Chains.{Repeats}
use Rattle.lk_client.specs.Questions.{Asker, Receives, WaitsFor}
use Rattle.lk_client.specs.declared.question.Question.{Question}
use Rattle.lk_client.specs.declared.reply.Reply.{Reply}
use Rattle.lk_transport.proofs.Chaining.{repeats_more, repeats_as}

module _ {S : Type 0} {sent : S → List (SocketAddr × List ℕ)} {failures : S → ℕ}
    {next : S → Option (SocketAddr × List ℕ)} {q : Question} {bytes : List ℕ} where
  -- a receive that sends equal bytes
  by_bytes : {said : List ℕ} {told : Option Reply} {old new : Asker S} → said ≡ bytes
      → Receives sent failures next q said told old new → Receives sent failures next q bytes told old new
  by_bytes {told = told} {old = old} {new = new} same =
      subst (λ (b : List ℕ). Receives sent failures next q b told old new) same

  -- one more that told nothing
  pub receives_more : {said : List ℕ} {count : ℕ} {old mid new : Asker S} (told : Option Reply)
      → is_some told ≡ false → said ≡ bytes
      → Repeats (Receives sent failures next q bytes None) count old mid
      → Receives sent failures next q said told mid new
      → Repeats (Receives sent failures next q bytes None) (count + 1) old new
  receives_more None none same passed more = repeats_more passed (by_bytes same more)
  receives_more (Some reply) none same passed more = absurd (cc none)

  -- one that told something
  pub receives_told : {said : List ℕ} {most count : ℕ} {old mid new : Asker S} (told : Option Reply)
      → is_some told ≡ true → said ≡ bytes → count < most
      → Repeats (Receives sent failures next q bytes None) count old mid
      → Receives sent failures next q said told mid new → WaitsFor sent failures next q most bytes told old new
  receives_told None some same fewer passed more = absurd (cc some)
  receives_told {count = count} {mid = mid} (Some reply) some same fewer passed more =
      (count, fewer, mid, passed, by_bytes same more)

  -- all of them told nothing
  pub receives_none : {most count : ℕ} {old new : Asker S} → count ≡ most
      → Repeats (Receives sent failures next q bytes None) count old new
      → WaitsFor sent failures next q most bytes None old new
  receives_none all passed = repeats_as {R = Receives sent failures next q bytes None} all passed
