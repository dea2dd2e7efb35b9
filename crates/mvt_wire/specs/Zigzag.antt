-- Zigzag: Protocol Buffers, Encoding, "Signed Integers". `negsuc n` is -n - 1.
use Rattle.std.specs.Prelude.{ℕ, ◌+◌, ◌*◌, ◌/◌, ◌%◌, ◌==◌, ℤ, pos, negsuc, if◌then◌else◌}

-- zigzag: 0, -1, 1, -2 are 0, 1, 2, 3 (4.3.2)
abbrev pub zig : ℤ → ℕ
zig (pos n) = 2 * n
zig (negsuc n) = 2 * n + 1

-- the number that has this code
abbrev pub unzig : ℕ → ℤ
unzig n = if n % 2 == 0 then pos (n / 2) else negsuc (n / 2)
