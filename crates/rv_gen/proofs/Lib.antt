mod Lines
mod SameOperands
