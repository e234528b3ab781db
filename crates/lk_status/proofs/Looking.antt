-- Two rounds of reports, one after the other.
use Rattle.std.proofs.Common.{◌≡◌, ◌∙◌, ℕ, List, refl, subst}
use Rattle.std.specs.declared.net.socket_addr.SocketAddr.{SocketAddr}
use Rattle.lk_probe.specs.declared.probe.Report.{Report}
use Rattle.lk_transport.specs.Streams.{Stream}
use Rattle.lk_status.specs.Looks.{AsksAlike, AreNamedBy, AreOfAsker, AreLookedAt}
use Rattle.lk_status.specs.Rounds.{AreHeard}
use Rattle.lk_status.specs.declared.target.Inquiry.{Inquiry}

pub alike_then : {i j k : Inquiry} → AsksAlike i j → AsksAlike j k → AsksAlike i k
alike_then a b = record {
  cluster = a.cluster ∙ b.cluster;
  client = a.client ∙ b.client;
  destination = a.destination ∙ b.destination;
}

module _ {S : Type 0} {sent : S → List (SocketAddr × List ℕ)} {incoming : S → Stream} {failures : S → ℕ}
    {observable : Type 0} where
  -- a round is one of whoever asked it
  pub of_round : {i : Inquiry} {first : ℕ} {rs : List Report} {ended : S}
      → AreHeard sent incoming failures i first observable rs ended
      → AreOfAsker sent incoming failures observable i rs ended
  of_round {i = i} {first = first} heard = record {
    asked = i;
    alike = record { cluster = refl; client = refl; destination = refl };
    first = first;
    heard = heard;
  }

  -- so is the later of two
  pub of_later : {i : Inquiry} {earlier rs : List Report} {ended : S}
      → AreLookedAt sent incoming failures observable i earlier rs ended
      → AreOfAsker sent incoming failures observable i rs ended
  of_later look = of_round look.is_later

  -- and of whoever asks alike
  pub of_alike : {i j : Inquiry} {rs : List Report} {ended : S}
      → AsksAlike i j → AreOfAsker sent incoming failures observable i rs ended
      → AreOfAsker sent incoming failures observable j rs ended
  of_alike alike asker = record {
    asked = asker.asked;
    alike = alike_then asker.alike alike;
    first = asker.first;
    heard = asker.heard;
  }

  -- two rounds, the later of which asked whom the earlier names
  pub looked_at : {i j : Inquiry} {first : ℕ} {slice earlier rs : List Report} {between ended : S}
      → AreOfAsker sent incoming failures observable i earlier between
      → AsksAlike i j → slice ≡ earlier → AreNamedBy slice j.targets.items
      → AreHeard sent incoming failures j first observable rs ended
      → AreLookedAt sent incoming failures observable j earlier rs ended
  looked_at {j = j} {first = first} {between = between} asker alike same named heard = record {
    between = between;
    is_earlier = of_alike alike asker;
    first = first;
    is_later = heard;
    named = subst (λ (l : List Report). AreNamedBy l j.targets.items) same named;
  }
