use Rattle.std.proofs.Common.{◌≡◌, ◌+◌, sum}
use Rattle.arrayvec.specs.ArrayVec.{array_vec_len}
use Rattle.cs_daemon.proofs.closing.no_shares.Given as goal

abbrev pub invariant-loop : goal.invariant-loop
invariant-loop l = record {
  len : array_vec_len l.shares ≡ l.counter + 1;
  sum : sum l.shares.items ≡ 0;
}
