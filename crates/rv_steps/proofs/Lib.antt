pub mod Going
pub mod IntegerRuns
mod MoreAnswers
pub mod HostGoing
