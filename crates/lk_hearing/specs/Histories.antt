-- Whom a node hears, told by all that it has sent and that has come.
use Rattle.std.specs.Prelude.{◌≡◌, ◌⊎◌, ◌<◌, ◌-◌, ⊤, ℕ, true, false, List, [], ◌∷◌, ◌++◌, suc, replicate, None}
use Rattle.std.proofs.Common.{inl, inr}
use Rattle.lk_hearing.specs.Probes.{Entries, having_heard, having_sent, is_reply}
use Rattle.lk_hearing.specs.declared.hearing.SentProbe.{SentProbe}
use Rattle.lk_hearing.specs.declared.hearing.Reply.{Reply}

-- a report, and the period in which it came
pub record Came : Type 0 where
  pub reply : Reply
  pub period : ℕ

-- what happened, the last first: probes that were sent, and reports that came
abbrev pub History : Type 0
History = List (SentProbe ⊎ Came)

-- what a node remembers of it
abbrev pub remembered : History → Entries
remembered [] = replicate 112 None
remembered (inl p ∷ before) = having_sent p (remembered before)
remembered (inr c ∷ before) = having_heard c.reply c.period (remembered before)

-- how many probes were sent
abbrev pub count_sent : History → ℕ
count_sent [] = 0
count_sent (inl p ∷ before) = suc (count_sent before)
count_sent (inr c ∷ before) = count_sent before

-- no report replies to that probe
abbrev pub NoReply : SentProbe → History → Type 0
NoReply p [] = ⊤
NoReply p (inl q ∷ before) = NoReply p before
NoReply p (inr c ∷ before) = (is_reply c.reply p ≡ false) × NoReply p before

-- the first report that replies to that probe came in that period
abbrev pub FirstReply : SentProbe → History → ℕ → Type 0
FirstReply p [] period = ⊥
FirstReply p (inl q ∷ before) period = FirstReply p before period
FirstReply p (inr c ∷ before) period =
    FirstReply p before period ⊎ ((is_reply c.reply p ≡ true) × NoReply p before × (period ≡ c.period))

-- one of the last 112 probes went to that node, and the first reply that has come since came in this period, or in one
-- of the seven before it
pub record IsHeardIn (node now : ℕ) (history : History) : Type 0 where
  pub since : History
  pub probe : SentProbe
  pub before : History
  pub are : history ≡ since ++ inl probe ∷ before
  pub few : count_sent since < 112
  pub to : probe.node ≡ node
  pub period : ℕ
  pub first : FirstReply probe since period
  pub recent : now - period < 8
