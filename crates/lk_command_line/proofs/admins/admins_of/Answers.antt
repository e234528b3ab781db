use Rattle.std.proofs.Common.{rules, ◌≡◌, refl}
use Rattle.lk_address_book.specs.Admins.{admitting}
use Rattle.lk_command_line.proofs.AdminWords.{nothing_read, one_read, last_read, no_client, no_last}
use Rattle.lk_command_line.proofs.admins.admins_of.Goals as goal

pub returns-in_default-client_of-clause-none : goal.returns-in_default-client_of-clause-none
returns-in_default-client_of-clause-none c = λ _ all spelled.
    let first = c.in-Some.ensures.some in
    no_client c.args.words.now c.words.rest.now c.in-Some.word.now c.in-Some.behind.now c.words.admins first.0 first.1
    (c.in_default-client_of.ensures.none refl) c.words.invariant all spelled

pub words-preserved : goal.words-preserved
words-preserved c =
    let first = c.in-Some.ensures.some in
    let grown : c.admit.new.self ≡ admitting c.in-Some-client_of.client c.words.admins = search rules in
    rw grown (one_read c.args.words.now c.words.rest.now c.in-Some.word.now c.in-Some.behind.now c.words.admins
    c.in-Some-client_of.client first.0 first.1 c.in-Some-client_of.ensures.some c.words.invariant)

pub returns-in_default-client_of-2-clause-none : goal.returns-in_default-client_of-2-clause-none
returns-in_default-client_of-2-clause-none c = λ _ all spelled.
    no_last c.args.words.now c.words.rest.now c.words.admins (c.in_default.ensures.none refl)
    (c.in_default-client_of-2.ensures.none refl) c.words.invariant all spelled

pub returns-clause-some : goal.returns-clause-some
returns-clause-some c =
    let grown : c.admit-2.new.self ≡ admitting c.in-Some-client_of-2.client c.words.admins = search rules in
    rw grown (last_read c.args.words.now c.words.rest.now c.words.admins c.in-Some-client_of-2.client
    c.in-Some-client_of-2.ensures.some c.words.invariant)
