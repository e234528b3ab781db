use Rattle.std.proofs.Common.{◌≡◌, drop}
use Rattle.lk_address_book.specs.Addresses.{AddressBook, IsSameNetwork}
use Rattle.lk_transport.specs.Listening.{ProbesMembers}
use Rattle.lk_transport.specs.Posts.{SendState, send_state_of}
use Rattle.lk_transport.proofs.post.SocketPost.probe_members.Given as goal

-- where those that are left are probed from here on, all are; and nothing else has changed
abbrev pub invariant-members : goal.invariant-members
invariant-members g l =
    ((book : AddressBook) (state : SendState)
    → ProbesMembers g.S.DatagramSocket.is_observable l.fn.self.node l.asks_state (drop l.member-index l.members)
    l.self.addresses book (send_state_of l.self) state
    → ProbesMembers g.S.DatagramSocket.is_observable l.fn.self.node l.asks_state l.members l.fn.self.addresses book
    (send_state_of l.fn.self) state)
    × IsSameNetwork l.fn.self.addresses l.self.addresses
    × (g.S.DatagramSocket.is_observable → l.self.incoming ≡ l.fn.self.incoming)
    × (l.self ≡ record l.fn.self {
      addresses = l.self.addresses;
      sent = l.self.sent;
      socket_failures = l.self.socket_failures;
      incoming = l.self.incoming;
    })
