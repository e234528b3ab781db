use Rattle.std.proofs.Common.{◌∙◌, ap, sym}
use Rattle.std.proofs.lemmas.Result.{on_ok_weaker}
use Rattle.lk_types.specs.declared.genesis.Genesis.{Genesis}
use Rattle.lk_healing.proofs.Asks.{asks_both}
use Rattle.lk_healing.proofs.Catches.{led_ready, still_fresh}
use Rattle.lk_healing.proofs.Quiet.{answered_by}
use Rattle.lk_healing.proofs.contending.contend.Goals as goal

pub lead-requires : goal.lead-requires
lead-requires g c = c.requires.contends.stands

pub fill-requires : goal.fill-requires
fill-requires g c = c.in_ok-asking.ensures.ok.fills

pub catch_up-requires-clause-alpha : goal.catch_up-requires-clause-alpha
catch_up-requires-clause-alpha g c = c.requires.alpha ∙ ap (λ (x : Genesis). x.alpha)
    (sym (c.in_ok-next.ensures.ok.asks.genesis ∙ c.in_ok-asking.ensures.ok.asks.genesis))

pub catch_up-requires-clause-filled : goal.catch_up-requires-clause-filled
catch_up-requires-clause-filled g c = c.in_ok-next.ensures.ok.filled

pub serve-requires : goal.serve-requires
serve-requires g c =
    led_ready g.M.Machine.meaning g.M.Machine.IsText c.catch_up.new.world c.args.candidate c.args.nodes.now
    c.in_ok-asking.asking
    c.in_ok-next.next c.args.request.now c.in_ok-catch_up.ensures.ok.led
    (still_fresh c.args.world.now c.catch_up.new.world c.args.request.now
    (asks_both c.args.world.now c.lead.new.world c.catch_up.new.world c.in_ok-asking.ensures.ok.asks
    (asks_both c.lead.new.world c.fill.new.world c.catch_up.new.world c.in_ok-next.ensures.ok.asks
    c.in_ok-catch_up.ensures.ok.asks)) c.requires.contends.fresh)

pub returns-clause-ok : goal.returns-clause-ok
returns-clause-ok g c =
    let ready = led_ready g.M.Machine.meaning g.M.Machine.IsText c.catch_up.new.world c.args.candidate c.args.nodes.now
    c.in_ok-asking.asking c.in_ok-next.next c.args.request.now c.in_ok-catch_up.ensures.ok.led
    (still_fresh c.args.world.now c.catch_up.new.world c.args.request.now
    (asks_both c.args.world.now c.lead.new.world c.catch_up.new.world c.in_ok-asking.ensures.ok.asks
    (asks_both c.lead.new.world c.fill.new.world c.catch_up.new.world c.in_ok-next.ensures.ok.asks
    c.in_ok-catch_up.ensures.ok.asks)) c.requires.contends.fresh) in
    on_ok_weaker c.serve.result
    (λ a. answered_by g.M.Machine.meaning g.M.Machine.IsText c.catch_up.new.world c.serve.new.world c.args.candidate
    c.args.nodes.now
    (record {
      cluster = c.in_ok-asking.asking.cluster;
      ballot = c.in_ok-asking.asking.ballot;
      first = c.in_ok-next.next;
    })
    c.args.request.now ready a) (c.serve.ensures.ok ready)
