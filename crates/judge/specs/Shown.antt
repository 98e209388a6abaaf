-- How bytes are shown on the screen, for src/shown. Assumes nothing.
use Rattle.std.specs.Prelude.{ℕ, cond, ◌&&◌, ◌||◌, ◌==◌, nat_le}

-- printable ASCII as it is, what separates tokens as a space, any other byte as a question mark
abbrev pub shown_as : ℕ → ℕ
shown_as b = cond (nat_le 32 b && nat_le b 126) b (cond (b == 9 || b == 13) 32 63)
