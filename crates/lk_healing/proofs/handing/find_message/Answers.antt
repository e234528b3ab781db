use Rattle.std.proofs.Common.{◌∙◌, ◌++◌, ℕ, List, Contains, ap, sym, subst}
use Rattle.lk_messages.specs.Grammar.{spelling}
use Rattle.lk_agreement_laws.specs.Datagrams.{Datagram}
use Rattle.lk_healing.proofs.handing.find_message.Goals as goal

pub unreachable-requires : goal.unreachable-requires
unreachable-requires g c =
    let s = c.requires.sent in
    c.place_of.ensures.none c.in_default.is s.0
    (subst (λ (ds : List Datagram). Contains ds s.0) (sym c.datagrams.ensures) s.1) s.2
    (s.3 ∙ sym (c.as_slice.ensures ∙ c.in_ok-write.ensures.ok
    ∙ ap (λ (l : List ℕ). l ++ spelling c.args.message.now) c.new-bytes.ensures.items))
