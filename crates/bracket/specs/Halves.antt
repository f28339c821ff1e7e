-- Numbers in two halves of 64 bits. Assumes nothing: this is a definition.
use Rattle.std.specs.Prelude.{ℕ, ◌+◌, ◌*◌, ◌^◌}
use Rattle.bracket.specs.declared.Wide.{Wide}

abbrev pub value_of : Wide → ℕ
value_of w = w.high * 2 ^ 64 + w.low
