-- What `copy_from_slice` leaves of a range is what the library calls `put_chunk`.
use mathlib.Core.Path.{◌≡◌, sym, ap}
use Prim.Native.Nat.{ℕ, ◌+◌, ◌*◌, ◌-◌}
use lib.ListN.{length, length-take, length-drop}
use native.Mathlib.Omega.{arith}
use Rattle.std.proofs.lemmas.Simd.{put_chunk_is}
use Rattle.engine.proofs.queueable_token.put.Goals as goal

pub returns : goal.returns
returns c =
    let n : length c.args.token ≡ 5 = omega (arith, ap length c.copy_from_slice.ensures.after, length-take {A = ℕ}, length-drop {A = ℕ}) in
    let k : c.args.i * 5 + 5 - c.args.i * 5 ≡ length c.args.token = omega arith in
    rw (c.copy_from_slice.ensures.after, k) (sym (put_chunk_is (c.args.i * 5) c.args.tokens.now c.args.token (omega arith)))
