-- A client that asks under one number: what it has sent, and what it has heard.
use Rattle.std.proofs.Common.{◌≡◌, ◌∙◌, List, ℕ, Bool, false, Option, None, refl, subst, inl}
use Rattle.std.specs.Prelude.{is_some}
use Rattle.std.specs.declared.net.socket_addr.SocketAddr.{SocketAddr}
use Rattle.lk_transport.specs.Streams.{Receives as Arrives, Stream, next_of}
use Rattle.lk_client.specs.Questions.{Asker, Endpoint, IsAsked, Receives, SendsOnce}
use Rattle.lk_client.specs.Waits.{Asks, IsOwnWatch, SendsAll}
use Rattle.lk_client.specs.declared.question.Question.{Question}
use Rattle.lk_client.specs.declared.reply.Reply.{Reply as ReplyValue}
use Rattle.lk_client.proofs.Hearing.{hears_both, hears_from, hears_more, hears_nothing, hears_once}
use Rattle.lk_client.proofs.Lasting.{receive_ends, receive_sends, watches_among}
use Rattle.lk_client.proofs.Sending.{sends_both, sends_from, sends_nothing, sends_once}

module _ {S : Type 0} (sent : S → List (SocketAddr × List ℕ)) (failures : S → ℕ) (incoming : S → Stream)
    (is : Bool) (q : Question) where
  pub asks_nothing : (at : S) → Asks sent incoming is q None at at
  asks_nothing at = record { sends = sends_nothing refl; hears = hears_nothing q refl; ends = tt }

  -- the same client, which goes on watching or not
  pub asks_as : (now : Bool) (told : Option ReplyValue) (old new : S) → now ≡ is
      → Asks sent incoming now q told old new → Asks sent incoming is q told old new
  asks_as now told old new same asks = subst (λ (b : Bool). Asks sent incoming b q told old new) same asks

  -- first in vain, and then so
  pub asks_both : (told : Option ReplyValue) (old mid new : S) → Asks sent incoming is q None old mid
      → Asks sent incoming is q told mid new → Asks sent incoming is q told old new
  asks_both told old mid new one two = record {
    sends = sends_both one.sends two.sends;
    hears = hears_both q told (incoming old) (incoming mid) (incoming new) one.hears two.hears;
    ends = two.ends;
  }

  -- in vain both times
  pub asks_more : (told : Option ReplyValue) (old mid new : S) → is_some told ≡ false
      → Asks sent incoming is q None old mid → Asks sent incoming is q told mid new
      → Asks sent incoming is q None old new
  asks_more told old mid new none one two = record {
    sends = sends_both one.sends two.sends;
    hears = hears_more q told (incoming old) (incoming mid) (incoming new) none one.hears two.hears;
    ends = tt;
  }

  -- the request was sent once
  pub asks_sent : (endpoint : Endpoint) (bytes : List ℕ) (old new : S) → IsAsked q bytes
      → SendsOnce endpoint bytes (sent old) (failures old) (sent new) (failures new) → incoming new ≡ incoming old
      → Asks sent incoming is q None old new
  asks_sent endpoint bytes old new asked once still = record {
    sends = sends_once endpoint bytes (sent old) (failures old) (sent new) (failures new) (inl asked) once;
    hears = hears_nothing q still;
    ends = tt;
  }

  -- a watch was sent, if at all, and then one datagram received
  pub asks_heard : (bytes : List ℕ) (told : Option ReplyValue) (old renewed : S) (mid new : Asker S) → IsAsked q bytes
      → SendsAll (IsOwnWatch is q) (sent old) (sent renewed) → incoming renewed ≡ incoming old
      → sent mid.socket ≡ sent renewed → incoming mid.socket ≡ incoming renewed
      → Receives sent failures (next_of incoming) q bytes told mid new
      → Arrives (next_of incoming mid.socket) (incoming mid.socket) (incoming new.socket)
      → Asks sent incoming is q told old new.socket
  asks_heard bytes told old renewed mid new asked watches still unchanged same heard comes = record {
    sends = sends_both (watches_among is q (sent old) (sent renewed) watches)
        (sends_from unchanged
        (receive_sends sent failures (next_of incoming) is q bytes told mid new asked heard));
    hears = hears_from q told (incoming old) (incoming mid.socket) (incoming new.socket) (same ∙ still)
        (hears_once q sent failures incoming bytes told mid new heard comes);
    ends = receive_ends sent failures incoming q bytes told mid new heard;
  }
