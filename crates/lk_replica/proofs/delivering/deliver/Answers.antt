use Rattle.std.proofs.Common.{List, take, refl, sym, subst, arith}
use Rattle.std.proofs.lemmas.List.{take_all}
use Rattle.lk_node_interface.specs.Envelopes.{EnvelopeValue}
use Rattle.lk_replica.specs.Posts.{CarriesAll}
use Rattle.lk_replica.proofs.Carrying.{carries_more}
use Rattle.lk_replica.proofs.Thinning.{take_one_more, sends_whether, tells_sends, delivers_none, after_lost, after_sent}
use Rattle.lk_replica.proofs.delivering.deliver.Goals as goal
use Rattle.lk_replica.proofs.delivering.deliver.Goals.{then-not-is_sent, else-not-is_sent}

pub loop-envelope-init : goal.loop-envelope-init
loop-envelope-init g c = (delivers_none _ _ _ _ refl, refl)

pub loop-envelope-preserved : goal.loop-envelope-preserved
loop-envelope-preserved g c =
    let more = take_one_more c.args.envelopes.now c.loop-envelope.envelope-index c.envelope-item.result
    (omega (arith, c.loop-envelope-test.true)) c.envelope-item.is in (
      elim c.if-not-is_sent.branch [
        | then-not-is_sent w ↦
            after_lost g.P.Post.is_observable c.args.envelopes.now c.loop-envelope.envelope-index c.envelope-item.result
            (g.P.Post.sent c.args.post.now) (g.P.Post.sent c.loop-envelope.post) (g.P.Post.sent c.is_sent.new.post)
            (g.P.Post.failures c.args.post.now) (g.P.Post.failures c.loop-envelope.post)
            (g.P.Post.failures c.is_sent.new.post) c.loop-envelope.all c.if-not-is_sent.all
            more w.all-is c.loop-envelope.invariant.0
            (λ telling. c.is_sent.ensures.lost telling (cc w.if-not-is_sent.true))
            (c.is_sent.ensures.rises (cc w.if-not-is_sent.true))
        | else-not-is_sent w ↦
            after_sent g.P.Post.is_observable c.args.envelopes.now c.loop-envelope.envelope-index c.envelope-item.result
            (g.P.Post.sent c.args.post.now) (g.P.Post.sent c.loop-envelope.post) (g.P.Post.sent c.is_sent.new.post)
            (g.P.Post.failures c.args.post.now) (g.P.Post.failures c.loop-envelope.post)
            (g.P.Post.failures c.is_sent.new.post) c.loop-envelope.all c.if-not-is_sent.all
            more w.all-is c.loop-envelope.invariant.0
            (λ telling. c.is_sent.ensures.sent telling (cc w.if-not-is_sent.false))
            (c.is_sent.ensures.same (cc w.if-not-is_sent.false))
      ],
      subst (λ (front : List EnvelopeValue). CarriesAll g.P.Post.Carries c.args.post.now front c.is_sent.new.post)
          (sym more)
          (carries_more g.P.Post.Carries c.args.post.now c.loop-envelope.post c.is_sent.new.post
          (take c.loop-envelope.envelope-index c.args.envelopes.now) c.envelope-item.result c.is_sent.result
          c.loop-envelope.invariant.1 c.is_sent.ensures.carries),
    )

pub returns : goal.returns
returns g c =
    let whole = take_all c.loop-envelope.envelope-index c.args.envelopes.now
    (omega (arith, c.loop-envelope-test.false)) in
    let tried = c.loop-envelope.invariant.0 in
    record {
      carried = subst (λ (l : List EnvelopeValue). CarriesAll g.P.Post.Carries c.args.post.now l
          c.loop-envelope.post) whole
          c.loop-envelope.invariant.1;
      sends = sends_whether g.P.Post.is_observable c.args.envelopes.now
          (take c.loop-envelope.envelope-index c.args.envelopes.now) _ _ _ _ whole c.loop-envelope.all tried;
      tells = tells_sends g.P.Post.is_observable c.args.envelopes.now
          (take c.loop-envelope.envelope-index c.args.envelopes.now) (g.P.Post.sent c.args.post.now)
          (g.P.Post.sent c.loop-envelope.post) _ _ whole c.loop-envelope.all tried;
    }
