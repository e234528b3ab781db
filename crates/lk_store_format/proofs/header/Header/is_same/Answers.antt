use Rattle.std.proofs.Common.{◌∙◌, sym, ap}
use Rattle.lk_store_format.specs.Values.{HeaderValue}
use Rattle.lk_store_format.proofs.HeaderLaws.{same_header, members_decide, told_same}
use Rattle.lk_store_format.proofs.header.Header.is_same.Goals as goal

pub returns : goal.returns
returns c = (
  λ t. sym c.self.view_is ∙ same_header _ _
      (told_same c.ne.result c.self.inside.node c.other.inside.node c.if-ne.false c.ne.ensures)
      c.if-self-other.false c.if-self-other-2.false
      ((members_decide c.self.inside.genesis.members c.other.inside.genesis.members).0 (sym c.eq.ensures ∙ t))
      ∙ c.other.view_is,
  λ e. c.eq.ensures ∙ (members_decide c.self.inside.genesis.members c.other.inside.genesis.members).1
      (ap (λ (h : HeaderValue). h.members) (c.self.view_is ∙ e ∙ sym c.other.view_is)),
)
