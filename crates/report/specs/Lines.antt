-- What stands in a symbol's line. Assumes nothing.
use Rattle.std.specs.Prelude.{ℕ, Some, None, Ok, Err, Option, Result}
use Rattle.source.specs.declared.refusal.Refusal.{Refusal}
use Rattle.source.specs.declared.span.Span.{Span}
use Rattle.symbols.specs.declared.symbol.Symbol.{Symbol}
use Rattle.report.specs.declared.symbol.SymbolLine.{SymbolLine}

-- the line of a number, from what its symbol and its name answer: a stab has none
abbrev pub symbol_line : ℕ → Result (Option Symbol) Refusal → Result Span Refusal → Result (Option SymbolLine) Refusal
symbol_line n (Ok (Some x)) name = Ok (Some (record { number = n; symbol = x; name = name }))
symbol_line n (Ok None) name = Ok None
symbol_line n (Err e) name = Err e
