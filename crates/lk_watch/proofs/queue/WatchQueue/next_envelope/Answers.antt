use Rattle.std.proofs.Common.{rules, ◌≡◌, ℕ, ◌+◌, ◌-◌, ◌<◌, ◌∙◌, true, List, Some, length, take, refl, sym, ap, subst}
use Rattle.std.proofs.Common.{arith}
use Rattle.std.proofs.lemmas.Grind.{common_steps}
use Rattle.std.proofs.lemmas.Option.{slice_get_read}
use Rattle.std.specs.Prelude.{slice_get, slice_index_or, slice_set}
use Rattle.std.specs.List.{count_by}
use Rattle.lk_watch.specs.Standings.{opening, serves}
use Rattle.lk_watch.specs.Waiters.{waits_for, told}
use Rattle.lk_watch.specs.Queues.{Table, QueueValue, is_due_at, NoneDueBefore, envelope_to, TellsFirst}
use Rattle.lk_watch.specs.declared.notice.News.TheVariants.{Free}
use Rattle.lk_watch.specs.declared.ticket.Ticket.{Ticket}
use Rattle.lk_watch.specs.declared.waiter.Waiter.{Waiter}
use Rattle.lk_watch.specs.declared.waiter.Envelope.{Envelope}
use Rattle.lk_watch.proofs.QueueLaws.{with_waiters, set_fits, is_waiter, told_fits, due_there, due_sent, due_serves}
use Rattle.lk_watch.proofs.QueueLaws.{fewer_left, tells}
use Rattle.lk_watch.proofs.queue.WatchQueue.next_envelope.Goals as goal

pub invariant_of-self : goal.invariant_of-self
invariant_of-self g c =
    let table : Table = g.T.NameTable.standing c.args.table.now in
    let ws : List Waiter = c.self.inside.waiters.items in
    let i = c.in_ok-index.index in
    let w : Waiter = c.index_mut.result.now in
    let within : i < length ws = grind (arith, common_steps) in
    let read : w ≡ slice_index_or ws i w = search rules in
    let there : slice_get ws i ≡ Some w = slice_get_read ws (length ws) i w refl within read in
    let due : is_due_at table ws i ≡ true = search rules in
    let few = due_sent (table w.ticket.name) (take i ws) w (due_there table ws i w there due) in
    let fits = told_fits c.opening-opening.result w (is_waiter ws c.self.inside.left i w c.self.invariant there) few in
    let n = c.self.inside.left - 1 in
    rw c.tell.ensures.told
    (set_fits ws n i w (told c.opening-opening.result w)
    (fewer_left ws c.self.inside.left n c.self.invariant (omega arith)) there refl refl fits)

pub returns-clause-first : goal.returns-clause-first
returns-clause-first g c =
    let table : Table = g.T.NameTable.standing c.args.table.now in
    let ws : List Waiter = c.self.inside.waiters.items in
    let i = c.in_ok-index.index in
    let w : Waiter = c.index_mut.result.now in
    let within : i < length ws = grind (arith, common_steps) in
    let read : w ≡ slice_index_or ws i w = search rules in
    let there : slice_get ws i ≡ Some w = slice_get_read ws (length ws) i w refl within read in
    let due : is_due_at table ws i ≡ true = search rules in
    let first : NoneDueBefore table ws i = search rules in
    let one : c.index-waiter.result.now ≡ w = grind (arith, common_steps) in
    let place : c.place_at-place.result ≡ 1 + count_by (waits_for w.ticket.name) (take i ws) =
    subst (λ (v : Waiter). c.place_at-place.result ≡ 1 + count_by (waits_for v.ticket.name) (take i ws)) one
    (search rules) in
    let sent : c.tell.result ≡ envelope_to ws i w =
    c.tell.ensures.envelope
    ∙ ap (λ (p : ℕ). let l : Envelope = record { to = w.address; ticket = w.ticket; news = Free; place = p } in l) place
    in
    let opened : c.opening-opening.result ≡ opening (table w.ticket.name) =
    subst (λ (v : Waiter). c.opening-opening.result ≡ opening (table v.ticket.name)) one (search rules) in
    let becomes : slice_set ws i c.tell.new.self ≡ slice_set ws i (told (opening (table w.ticket.name)) w) =
    ap (λ (v : Waiter). slice_set ws i v) (c.tell.ensures.told ∙ ap (λ (o : ℕ). told o w) opened) in
    let same : with_waiters ws c.self.inside.left ≡ c.args.self.now = search rules in
    subst (λ (q : QueueValue). TellsFirst table q c.tell.result
    (with_waiters (slice_set ws i c.tell.new.self) (c.self.inside.left - 1))) same
    (tells table ws (slice_set ws i c.tell.new.self) c.self.inside.left (c.self.inside.left - 1) i w c.tell.result
    there due first sent becomes (omega (arith, c.if-self-eq0.false)))

pub returns-clause-free : goal.returns-clause-free
returns-clause-free g c =
    let table : Table = g.T.NameTable.standing c.args.table.now in
    let ws : List Waiter = c.self.inside.waiters.items in
    let i = c.in_ok-index.index in
    let w : Waiter = c.index_mut.result.now in
    let within : i < length ws = grind (arith, common_steps) in
    let read : w ≡ slice_index_or ws i w = search rules in
    let there : slice_get ws i ≡ Some w = slice_get_read ws (length ws) i w refl within read in
    let due : is_due_at table ws i ≡ true = search rules in
    let ticket : w.ticket ≡ c.tell.result.ticket = sym (ap (λ (l : Envelope). l.ticket) c.tell.ensures.envelope) in
    subst (λ (t : Ticket). serves (table t.name) t ≡ true) ticket
    (due_serves (table w.ticket.name) (take i ws) w (due_there table ws i w there due))
