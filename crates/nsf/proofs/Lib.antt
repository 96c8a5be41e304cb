mod Orders
mod Refusals
pub use Rattle.threads_leader.proofs.Crosses
mod Published
mod Connecting
mod Worked
pub use Rattle.threads_lifetime.proofs.Orders as SeatOrders
