-- What the receives of a client find, one after another.
use Rattle.std.proofs.Common.{◌≡◌, ◌++◌, [], ◌∷◌, List, ℕ, false, Option, Some, None, refl, subst, sym}
use Rattle.std.specs.Prelude.{is_some}
use Rattle.std.specs.declared.net.socket_addr.SocketAddr.{SocketAddr}
use Rattle.lk_transport.specs.Streams.{Receives as Arrives, ReceivesAll, Stream, next_of}
use Rattle.lk_client.specs.Questions.{Asker, Receives}
use Rattle.lk_client.specs.Waits.{HearsUntil, Tells}
use Rattle.lk_client.specs.declared.question.Question.{Question}
use Rattle.lk_client.specs.declared.reply.Reply.{Reply as ReplyValue}
use Rattle.lk_client.proofs.Keeping.{all_both}

abbrev Found : Type 0
Found = Option (SocketAddr × List ℕ)

-- what is found under another name
pub arrives : (next found : Found) (old new : Stream) → next ≡ found → Arrives found old new → Arrives next old new
arrives next found old new is comes = subst (λ (f : Found). Arrives f old new) (sym is) comes

-- after which nothing more came
pub arrives_at : (found : Found) (old mid new : Stream) → new ≡ mid → Arrives found old mid → Arrives found old new
arrives_at found old mid new is comes = subst (λ (s : Stream). Arrives found old s) (sym is) comes

receives_both : (xs ys : List Found) (old mid new : Stream) → ReceivesAll xs old mid → ReceivesAll ys mid new
    → ReceivesAll (xs ++ ys) old new
receives_both [] ys old mid new one two = subst (λ (s : Stream). ReceivesAll ys s new) one two
receives_both (x ∷ xs) ys old mid new one two = (one.0, one.1, receives_both xs ys one.0 mid new one.2 two)

module _ (q : Question) where
  pub hears_nothing : {old new : Stream} → new ≡ old → HearsUntil q None old new
  hears_nothing same = ([], tt, same)

  hears_none : (old mid new : Stream) → HearsUntil q None old mid → HearsUntil q None mid new
      → HearsUntil q None old new
  hears_none old mid new one two = (
    one.0 ++ two.0,
    all_both (Tells q None) one.0 two.0 one.1 two.1,
    receives_both one.0 two.0 old mid new one.2 two.2,
  )

  -- first nothing, and then this
  pub hears_both : (told : Option ReplyValue) (old mid new : Stream) → HearsUntil q None old mid
      → HearsUntil q told mid new → HearsUntil q told old new
  hears_both None old mid new one two = hears_none old mid new one two
  hears_both (Some reply) old mid new one two = (two.0, hears_none old mid two.0 one two.1, two.2, two.3, two.4)

  -- nothing either time
  pub hears_more : (told : Option ReplyValue) (old mid new : Stream) → is_some told ≡ false → HearsUntil q None old mid
      → HearsUntil q told mid new → HearsUntil q None old new
  hears_more None old mid new none one two = hears_none old mid new one two
  hears_more (Some reply) old mid new none one two = absurd (cc none)

  -- from where nothing has come yet
  pub hears_from : (told : Option ReplyValue) (old mid new : Stream) → mid ≡ old → HearsUntil q told mid new
      → HearsUntil q told old new
  hears_from told old mid new same hears = subst (λ (s : Stream). HearsUntil q told s new) same hears

  -- one receive
  pub hears_once : {S : Type 0} (sent : S → List (SocketAddr × List ℕ)) (failures : S → ℕ) (incoming : S → Stream)
      (bytes : List ℕ) (told : Option ReplyValue) (old new : Asker S)
      → Receives sent failures (next_of incoming) q bytes told old new
      → Arrives (next_of incoming old.socket) (incoming old.socket) (incoming new.socket)
      → HearsUntil q told (incoming old.socket) (incoming new.socket)
  hears_once sent failures incoming bytes None old new r comes =
      (next_of incoming old.socket ∷ [], ((r.heard, r.hears, r.tells), tt), (incoming new.socket, comes, refl))
  hears_once sent failures incoming bytes (Some reply) old new r comes =
      (incoming old.socket, ([], tt, refl), next_of incoming old.socket, (r.heard, r.hears, r.tells), comes)
