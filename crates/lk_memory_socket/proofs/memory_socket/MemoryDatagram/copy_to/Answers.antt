use Rattle.std.proofs.Common.{◌≡◌, ℕ, ◌∙◌, List, take, drop, length, min, ap, rules}
use Rattle.lk_memory_socket.proofs.Cutting.{heard_so}
use Rattle.lk_memory_socket.proofs.memory_socket.MemoryDatagram.copy_to.Goals as goal

pub returns-clause-copies : goal.returns-clause-copies
returns-clause-copies c =
    let bytes = c.args.self.now.bytes.items in
    let n = c.cut_length-length.result in
    let long : c.len.result ≡ length bytes = search rules in
    let few : n ≡ min (length bytes) 16421 = c.cut_length-length.ensures ∙ ap (λ (k : ℕ). min k 16421) long in
    let copied = c.copy_from_slice.ensures.after ∙ ap (λ (bs : List ℕ). take n bs) c.deref.ensures.value in
    heard_so bytes c.copy_from_slice.new.self (drop n c.args.buffer.now) n few copied
