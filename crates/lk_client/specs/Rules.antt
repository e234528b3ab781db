-- The rule of a client: it sends one request, and only that, to each node that it asks, until it has a reply.
use Rattle.std.specs.Prelude.{◌≡◌, ℕ, Bool, true, false, Option, Some, None, IfSome, List, [], ◌∷◌, ◌++◌}
use Rattle.std.specs.List.{AllByRecursion}
use Rattle.std.specs.declared.net.socket_addr.SocketAddr.{SocketAddr}
use Rattle.lk_client.specs.Questions.{IsAsked, IsReply, Exchanges, own_place}
use Rattle.lk_client.specs.declared.destination.Place.{Place}
use Rattle.lk_client.specs.declared.question.Question.{Question}
use Rattle.lk_client.specs.declared.reply.Reply.{Reply as ReplyValue}

-- each datagram sent since then is the request of that question, byte for byte: a question has one spelling and one
-- frame
pub record SendsOnly (q : Question) (old new : List (SocketAddr × List ℕ)) : Type 0 where
  pub more : List (SocketAddr × List ℕ)
  pub behind : new ≡ old ++ more
  pub same : AllByRecursion (λ (d : SocketAddr × List ℕ). IsAsked q d.1) more

-- the datagram that arrived after everything was sent is that reply of a node of the cluster to the request
pub record IsReplied {S : Type 0} (sent : S → List (SocketAddr × List ℕ)) (next : S → Option (SocketAddr × List ℕ))
    (q : Question) (reply : ReplyValue) (new : S) : Type 0 where
  pub last : S
  pub datagram : SocketAddr × List ℕ
  pub came : next last ≡ Some datagram
  pub says : IsReply q datagram.1 reply
  pub silent : sent new ≡ sent last

-- what a kind of socket has sent, how many of its sends have failed, and what its next receive finds; and the question
-- of a client at such a socket
module _ {S : Type 0} (sent : S → List (SocketAddr × List ℕ)) (failures : S → ℕ)
    (next : S → Option (SocketAddr × List ℕ)) (q : Question) where
  -- a client that keeps the rule, with so many receives for each place
  pub record KeepsRule (most : ℕ) (places : List Place) (told : Option ReplyValue) (old new : S) : Type 0 where
    -- it has sent nothing but that request
    pub same : SendsOnly q (sent old) (sent new)
    -- to these places, one after another and once each, and to the members that replies name, until it is told its fate
    pub in_turn : Exchanges sent failures next q most places told old new
    -- what it returns is what a datagram says, after which it has sent nothing
    pub ends : IfSome told (λ (reply : ReplyValue). IsReplied sent next q reply new)

  -- it asks at these places, with 5 receives each, or, if there are none, at the question's own with 50
  abbrev pub AsksInTurn : List Place → Option ReplyValue → S → S → Type 0
  AsksInTurn [] told old new = KeepsRule 50 (own_place q ∷ []) told old new
  AsksInTurn (place ∷ places) told old new = KeepsRule 5 (place ∷ places) told old new

  -- the client has a reply, or asked in vain
  abbrev pub Comes : List Place → Bool → S → S → Type 0
  Comes turns true old new = (reply : ReplyValue) × AsksInTurn turns (Some reply) old new
  Comes turns false old new = AsksInTurn turns None old new
