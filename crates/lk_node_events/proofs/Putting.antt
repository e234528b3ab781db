-- News that wait to be told, and further ones.
use Rattle.std.proofs.Common.{◌≡◌, ◌<◌, ◌≤◌, ◌∙◌, ℕ, suc, ◌+◌, List, [], ◌∷◌, ◌++◌, length, get_or, drop}
use Rattle.std.proofs.Common.{sym, ap, drop-cons, arith}
use Rattle.std.proofs.lemmas.List.{drop_all}
use Rattle.lk_types.specs.declared.member.Member.{Member}
use Rattle.lk_node_events.specs.News.{Topic}
use Rattle.lk_node_events.specs.Watches.{PutsNews, nothing, news}
use Rattle.lk_node_events.specs.declared.rate_limit.RateLimit.{RateLimit}
use Rattle.lk_node_events.specs.declared.story.Story.{Story}
use Rattle.lk_node_events.specs.declared.observation.Observation.{Observation}

pub puts_both : {now : ℕ} {story : Story} {seen : Observation} {first second : List Topic} {old mid new : List
    RateLimit}
    → PutsNews now story seen first old mid → PutsNews now story seen second mid new
    → PutsNews now story seen (first ++ second) old new
puts_both nothing after = after
puts_both (news event gives puts rest) after = news event gives puts (puts_both rest after)

-- ---- members, one by one

same : (n : ℕ) → suc n ≡ n + 1
same n = omega arith

-- those from a place on begin with the one that is there
pub next_member : (ms : List Member) (i : ℕ) (m : Member) → i < length ms → m ≡ get_or ms i m
    → drop i ms ≡ m ∷ drop (i + 1) ms
next_member ms i m within is =
    drop-cons ms i m within
    ∙ ap (λ (other : Member). other ∷ drop (suc i) ms) (sym is)
    ∙ ap (λ (n : ℕ). m ∷ drop n ms) (same i)

-- none are left at the end
pub none_left : (ms : List Member) (i : ℕ) → length ms ≤ i → drop i ms ≡ []
none_left ms i past = drop_all i ms past
