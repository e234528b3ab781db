-- How a server handles probes and reports, one step after another.
use Rattle.std.proofs.Common.{◌≡◌, ◌∙◌, ℕ, List, Option, Some, None, ap, subst, subst₂}
use Rattle.lk_types.specs.declared.member.Member.{Member}
use Rattle.lk_probe.specs.declared.reported.Reported.{Reported}
use Rattle.lk_address_book.specs.Addresses.{AddressBook, Filter, IsSameFilter, IsSameNetwork}
use Rattle.lk_transport.specs.Inquiring.{AsksOne}
use Rattle.lk_address_book.specs.Inquiries.{LearnsKept}
use Rattle.lk_transport.specs.Posts.{SendState}
use Rattle.lk_transport.specs.declared.received_probe.ReceivedProbe.{ReceivedProbe}
use Rattle.lk_server.specs.ProbeHandling.{HandlesProbes, ListensFor, ListensIf, Welcomes}
use Rattle.lk_server.specs.Probes.{RepliesToKept}
use Rattle.lk_server.specs.Servers.{ServerValue, periods, send_state_at}
use Rattle.lk_server_replica.specs.declared.probed_state.ProbedState.{ProbedState}

-- where nodes live, the keys and the admins are the same where the filter is
pub same_place : (old mid new : AddressBook) → IsSameNetwork old mid → IsSameFilter mid new → IsSameNetwork old new
same_place old mid new one two = (
  two.0 ∙ one.0,
  ap (λ (f : Filter). f.seals) two.1 ∙ one.1,
  ap (λ (f : Filter). f.admins) two.1 ∙ one.2,
)

-- an answer leaves what is to come
answer_still : {R : Type 0} (Shows : R → ProbedState → Type 0) (observable : Type 0) (asked : Option ReceivedProbe)
    (old new : ServerValue R) → RepliesToKept Shows observable asked old new → observable → new.incoming ≡ old.incoming
answer_still {R} Shows observable None old new same t = ap (λ (s : ServerValue R). s.incoming) same
answer_still Shows observable (Some a) old new one t = one.still t

module _ {R : Type 0} (Shows : R → ProbedState → Type 0) (members : R → List Member) (observable : Type 0)
    (asked : Option ReceivedProbe) (reported : Option Reported) (now : ℕ)
    (old replied readmitted learned questioned new : ServerValue R) where
  -- it answers, readmits, learns and asks
  pub acted : RepliesToKept Shows observable asked old replied
      → replied ≡ record old {
        sent = replied.sent;
        socket_failures = replied.socket_failures;
        incoming = replied.incoming;
      }
      → Welcomes Shows asked replied.replica replied.node replied.addresses readmitted.addresses
      → IsSameNetwork replied.addresses readmitted.addresses
      → readmitted ≡ record replied { addresses = readmitted.addresses }
      → LearnsKept readmitted.node reported readmitted.addresses learned.addresses
      → IsSameNetwork readmitted.addresses learned.addresses
      → learned ≡ record readmitted { addresses = learned.addresses }
      → now ≡ periods learned → AsksOne observable now learned.node learned.addresses questioned.addresses
      (send_state_at learned.loopback learned) (send_state_at questioned.loopback questioned)
      → IsSameNetwork learned.addresses questioned.addresses
      → (observable → questioned.incoming ≡ learned.incoming)
      → questioned ≡ record learned {
        addresses = questioned.addresses;
        sent = questioned.sent;
        socket_failures = questioned.socket_failures;
        incoming = questioned.incoming;
      }
      → ListensIf members observable reported questioned new
      → IsSameNetwork questioned.addresses new.addresses
      → (observable → new.incoming ≡ questioned.incoming)
      → new ≡ record questioned {
        addresses = new.addresses;
        sent = new.sent;
        socket_failures = new.socket_failures;
        incoming = new.incoming;
      }
      → HandlesProbes Shows members observable asked reported old new
  acted replies answered_so readmits heard readmitted_so learns known learned_so loopback asks kept still asked_so
      listens held quiet new_so =
      let book : replied.addresses ≡ old.addresses = ap (λ (s : ServerValue R). s.addresses) answered_so in
      let again : learned ≡ record replied { addresses = learned.addresses } = learned_so
      ∙ ap (λ (s : ServerValue R). record s { addresses = learned.addresses }) readmitted_so in
      let node : learned.node ≡ old.node = ap (λ (s : ServerValue R). s.node) again
      ∙ ap (λ (s : ServerValue R). s.node) answered_so in
      let tray : send_state_at learned.loopback learned ≡ send_state_at replied.loopback replied =
      ap (λ (s : ServerValue R). send_state_at s.loopback s) again in
      let since : learned ≡ record old {
        addresses = learned.addresses;
        sent = replied.sent;
        socket_failures = replied.socket_failures;
        incoming = replied.incoming;
      } =
      again ∙ ap (λ (s : ServerValue R). record s { addresses = learned.addresses }) answered_so in
      let time : now ≡ periods old = loopback ∙ ap (λ (s : ServerValue R). periods s) since in
      let asked_at : AsksOne observable (periods old) learned.node learned.addresses questioned.addresses
      (send_state_at learned.loopback learned) (send_state_at questioned.loopback questioned) =
      subst (λ (n : ℕ). AsksOne observable n learned.node learned.addresses questioned.addresses
      (send_state_at learned.loopback learned)
      (send_state_at questioned.loopback questioned)) time asks in
      let before : readmitted.node ≡ old.node = ap (λ (s : ServerValue R). s.node) readmitted_so
      ∙ ap (λ (s : ServerValue R). s.node) answered_so in
      let then : questioned ≡ record old {
        addresses = questioned.addresses;
        sent = questioned.sent;
        socket_failures = questioned.socket_failures;
        incoming = questioned.incoming;
      } =
      asked_so ∙ ap (λ (s : ServerValue R). record s {
        addresses = questioned.addresses;
        sent = questioned.sent;
        socket_failures = questioned.socket_failures;
        incoming = questioned.incoming;
      }) since in
      record {
        replied = replied;
        replies = replies;
        readmitted = readmitted.addresses;
        readmits = subst (λ (s : ServerValue R). Welcomes Shows asked s.replica s.node s.addresses
            readmitted.addresses) answered_so readmits;
        learned = learned.addresses;
        learns = subst (λ (n : ℕ). LearnsKept n reported readmitted.addresses learned.addresses) before learns;
        questioned = questioned.addresses;
        between = send_state_at questioned.loopback questioned;
        asks = subst₂ (λ (n : ℕ) (t : SendState). AsksOne observable (periods old) n learned.addresses
            questioned.addresses t (send_state_at questioned.loopback questioned)) node tray asked_at;
        keys = kept.1 ∙ known.1 ∙ heard.1 ∙ ap (λ (b : AddressBook). b.seals) book;
        listens = subst (λ (s : ServerValue R). ListensFor members observable reported s questioned.addresses
            new.addresses (send_state_at questioned.loopback questioned) (send_state_at new.loopback new) s.pace)
            then listens;
        network = (
          held.0 ∙ kept.0 ∙ known.0 ∙ heard.0 ∙ ap (λ (b : AddressBook). b.hosts) book,
          held.1 ∙ kept.1 ∙ known.1 ∙ heard.1 ∙ ap (λ (b : AddressBook). b.seals) book,
          held.2 ∙ kept.2 ∙ known.2 ∙ heard.2 ∙ ap (λ (b : AddressBook). b.admins) book,
        );
        still = λ t. quiet t ∙ still t ∙ ap (λ (s : ServerValue R). s.incoming) again
            ∙ answer_still Shows observable asked old replied replies t;
        same = new_so ∙ ap (λ (s : ServerValue R). record s {
          addresses = new.addresses;
          sent = new.sent;
          socket_failures = new.socket_failures;
          incoming = new.incoming;
        }) then;
      }
