mod Queues
mod Keeping
mod Under
