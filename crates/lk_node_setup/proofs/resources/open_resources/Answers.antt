-- Each part of the resources is what the call that made it ensures.
use Rattle.lk_node_setup.proofs.resources.open_resources.Goals as goal

pub returns : goal.returns
returns g c = record {
  address = c.in_ok-network.address;
  network = c.in_ok-network.ensures;
  pace = c.pace_with-pace.ensures;
  device = c.in_ok-device.ensures.store;
  existing = c.in_ok-device.ensures.existing;
  socket = record {
    bound = c.in_ok-socket.socket;
    at_address = c.in_ok-socket.ensures;
    finds = c.in_ok-unreached.ensures.finds;
    alike = c.in_ok-unreached.ensures.alike;
    some = c.in_ok-unreached.ensures.some;
  };
}
