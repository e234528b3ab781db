-- Who sent what arrived at a server.
use Rattle.std.specs.Prelude.{ℕ, Option, Some, None}
use Rattle.lk_address_book.specs.declared.arrival.Arrival.{Arrival}
use Rattle.lk_address_book.specs.declared.arrival.Arrival.TheVariants.{Tick, Bad, Foreign, Request, Want, Said}

-- the node that sent it, if one did
abbrev pub sender : Arrival → Option ℕ
sender Tick = None
sender Bad = None
sender Foreign = None
sender (Request client) = None
sender (Want node) = Some node
sender (Said name node) = Some node
