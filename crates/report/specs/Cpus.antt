-- The processor that a number means, and its number. Assumes nothing.
use Rattle.std.specs.Prelude.{ℕ, cond, ◌==◌}
use Rattle.report.specs.declared.cpu.CpuType.{CpuType}
use Rattle.report.specs.declared.cpu.CpuType.TheVariants.{I386, Arm, PowerPc, X86_64, Arm64, PowerPc64, Arm64_32, Other}

-- by the numbers of `machine.h`
abbrev pub cpu_of : ℕ → CpuType
cpu_of n =
    cond (n == 0x7) I386
    (cond (n == 0xc) Arm
    (cond (n == 0x12) PowerPc
    (cond (n == 0x0100_0007) X86_64
    (cond (n == 0x0100_000c) Arm64
    (cond (n == 0x0100_0012) PowerPc64
    (cond (n == 0x0200_000c) Arm64_32
    (Other n)))))))

-- and back
abbrev pub cputype_of : CpuType → ℕ
cputype_of I386 = 0x7
cputype_of Arm = 0xc
cputype_of PowerPc = 0x12
cputype_of X86_64 = 0x0100_0007
cputype_of Arm64 = 0x0100_000c
cputype_of PowerPc64 = 0x0100_0012
cputype_of Arm64_32 = 0x0200_000c
cputype_of (Other n) = n
